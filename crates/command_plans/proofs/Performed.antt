-- The clause of a command at each of its exits.
use Rattle.std.proofs.Common.{◌≡◌, ◌⊎◌, inl, inr, ⊎_elim, ℕ, true, List, [], ◌∷◌, ◌++◌, take, refl, sym, ap, ◌∙◌, subst, Result, Ok, Err, IsErr, IsErrAnd, IfOk, IfErr, append-nil}
use Rattle.boot_machine.specs.Prelude.{Files, State, IsIn, candidates, recovered_view, IsImage, IsFirm, Timeline, EachSince, on_channel, with_printed, Sent, Adds, PrintsPart, latest_view, recovered_views, OnlyReads}
use Rattle.boot_machine.specs.declared.machine.Channel.{Channel}
use Rattle.boot_machine.proofs.Elapsing.{weaken, joined}
use Rattle.boot_machine.proofs.Printing.{tagged_part}
use Rattle.boot_machine.proofs.Seeing.{latest_view-recovered_views, one_view, recovered_now_in, from_views, candidate_image}
use Rattle.install_steps.specs.Steps.{Keeps, Sees, IsDone as IsInstalled}
use Rattle.command_plans.specs.Prelude.{Deed, Stopped, Stays, Breaks, Performs, DoesDeed, end_by, end_of, run_error_of}
use Rattle.command_plans.specs.declared.outcome.Outcome.{Outcome}
use Rattle.command_plans.specs.declared.outcome.RunError.{RunError}
use Rattle.command_plans.specs.declared.outcome.RunError.TheVariants as run_errors
use Rattle.command_plans.specs.declared.outcome.MachineFault.{MachineFault}
use Rattle.command_plans.specs.declared.outcome.MachineFault.TheVariants.{Disk}
use Rattle.command_plans.proofs.Exits.{if_ok, if_err}
use Rattle.command_plans.proofs.Replies.{Replied}

module _ {D : Type 0} (time : Timeline D) (state : D → State) (old : D) (outcome : Outcome) (after : Files) (to : Channel) (bytes : (List ℕ)) where
  abbrev deed : Deed
  deed = record { settles = true; outcome = outcome; after = after; sent = on_channel to bytes }

  abbrev At : Files → Sent → Type 0
  At image sent = Adds (state old).printed sent (λ part. Breaks deed (recovered_views (state old)) (recovered_view image ∷ []) part Stopped)

  nothing_more : (sent : Sent) → sent ≡ (state old).printed → sent ≡ (state old).printed ++ []
  nothing_more sent is = is ∙ sym (append-nil (state old).printed)

  settle_moments : (mid : D) → ((m : Files) → IsImage (state old) m → IsIn (recovered_view m) (recovered_views (state old)))
      → EachSince time old mid (λ m o. IsImage (state old) m × (o ≡ (state old).printed)) → EachSince time old mid At
  settle_moments mid sees moments = weaken time state _ At old mid (λ m o here. ([], nothing_more o here.1, inl (refl, (recovered_view m, refl, sees m here.0)))) moments

  apply_moments : (mid new : D) → Keeps (state old) (state mid) → (state mid).files ≡ (state old).files → EachSince time mid new (Sees (state mid) after) → EachSince time mid new At
  apply_moments mid new keeps files moments = weaken time state _ At mid new (λ m o sees. (
    [],
    nothing_more o (sees.1 ∙ keeps.printed),
    ⊎_elim
        (λ was. inl (refl, (recovered_view m, refl, subst (λ v. IsIn v (recovered_views (state old))) (sym (was ∙ ap recovered_view files)) (recovered_now_in (state old)))))
        (λ now. inr ((on_channel to bytes, refl), (recovered_view m, refl, inl now)))
        sees.0,
  )) moments

  reply_moments : (mid new : D) → (state mid).printed ≡ (state old).printed → IsInstalled (state mid) after
      → EachSince time mid new (PrintsPart (state mid) (on_channel to bytes)) → EachSince time mid new At
  reply_moments mid new printed installed moments = weaken time state _ At mid new (λ m o prints.
      (prints.part.0, prints.part.1 ∙ ap (λ (l : Sent). l ++ prints.part.0) printed, inr (prints.part.2, (recovered_view m, refl, inl (installed.images m prints.stands))))) moments

  -- the names couldn't be synced
  pub settle_failed : (new : D) (result : Result Outcome MachineFault) → IsErr result → IsErrAnd result (λ stop. stop ≡ Disk)
      → ((m : Files) → IsImage (state old) m → IsIn (recovered_view m) (recovered_views (state old)))
      → state new ≡ state old → IsFirm (state new) → EachSince time old new (λ m o. IsImage (state old) m × (o ≡ (state old).printed))
      → Performs time state end_by old new deed result
  settle_failed new result failed is sees same firm moments = record {
    firm = firm;
    ok = if_ok result _ failed;
    err = if_err result Disk _ is ([], nothing_more _ (ap (λ (s : State). s.printed) same), inl (refl, ap recovered_views same));
    moments = settle_moments new sees moments;
  }

  -- the change failed
  pub change_failed : (mid new : D) (result : Result Outcome MachineFault) → IsErr result → IsErrAnd result (λ stop. stop ≡ Disk)
      → ((m : Files) → IsImage (state old) m → IsIn (recovered_view m) (recovered_views (state old)))
      → ((m : Files) → IsImage (state new) m → time.since new (time.clock mid) m (state new).printed)
      → Keeps (state old) (state mid) → (state mid).files ≡ (state old).files → EachSince time old mid (λ m o. IsImage (state old) m × (o ≡ (state old).printed))
      → Keeps (state mid) (state new) → IsFirm (state new) → EachSince time mid new (Sees (state mid) after)
      → Performs time state end_by old new deed result
  change_failed mid new result failed is sees counts_now keeps files settling keeps_too firm moments = record {
    firm = firm;
    ok = if_ok result _ failed;
    err = if_err result Disk _ is ([], nothing_more _ (keeps_too.printed ∙ keeps.printed), inr (refl, one_of_two));
    moments = joined time state At old mid new (settle_moments mid sees settling) (apply_moments mid new keeps files moments);
  }
    where
      one_of_two : (v : Files) → IsIn v (recovered_views (state new)) → (v ≡ latest_view (recovered_views (state old))) ⊎ (v ≡ after)
      one_of_two v is =
          let from = from_views (candidates (state new)) v is in
          let seen_then = moments.each from.0 _ (counts_now from.0 (candidate_image (state new) from.0 from.1)) in
          ⊎_elim (λ was. inl (from.2 ∙ was ∙ ap recovered_view files ∙ sym (latest_view-recovered_views (state old)))) (λ now. inr (from.2 ∙ now)) seen_then.0

  -- up to the reply, all is done
  until_reply : (mid done new : D) → ((m : Files) → IsImage (state old) m → IsIn (recovered_view m) (recovered_views (state old)))
      → Keeps (state old) (state mid) → (state mid).files ≡ (state old).files → EachSince time old mid (λ m o. IsImage (state old) m × (o ≡ (state old).printed))
      → Keeps (state mid) (state done) → IsInstalled (state done) after → EachSince time mid done (Sees (state mid) after)
      → EachSince time done new (PrintsPart (state done) (on_channel to bytes)) → EachSince time old new At
  until_reply mid done new sees keeps files settling keeps_too installed moments printing =
      joined time state At old done new
      (joined time state At old mid done (settle_moments mid sees settling) (apply_moments mid done keeps files moments))
      (reply_moments done new (keeps_too.printed ∙ keeps.printed) installed printing)

  one_left : (done new : D) (shown : (List ℕ)) → IsInstalled (state done) after → state new ≡ with_printed to shown (state done) → recovered_views (state new) ≡ after ∷ []
  one_left done new shown installed is = ap recovered_views is ∙ one_view (state done) installed.one ∙ ap (λ (v : Files). v ∷ []) installed.files

  same_firm : (s : State) (shown : (List ℕ)) → IsFirm s → IsFirm (with_printed to shown s)
  same_firm s shown firm = record { unseen = firm.unseen; intent = firm.intent; unnamed = firm.unnamed }

  -- the reply is printed, or couldn't be
  pub replied : (mid done new : D) (result : Result Outcome MachineFault) → ((m : Files) → IsImage (state old) m → IsIn (recovered_view m) (recovered_views (state old)))
      → Keeps (state old) (state mid) → (state mid).files ≡ (state old).files → EachSince time old mid (λ m o. IsImage (state old) m × (o ≡ (state old).printed))
      → Keeps (state mid) (state done) → IsInstalled (state done) after → EachSince time mid done (Sees (state mid) after)
      → EachSince time done new (PrintsPart (state done) (on_channel to bytes)) → Replied outcome to bytes (state done) (state new) result
      → Performs time state end_by old new deed result
  replied mid done new (Ok told) sees keeps files settling keeps_too installed moments printing is = record {
    firm = subst IsFirm (sym is.1) (same_firm (state done) bytes installed.firm);
    ok = (is.0, one_left done new bytes installed is.1, ap (λ (s : State). s.printed) is.1 ∙ ap (λ (l : Sent). l ++ on_channel to bytes) (keeps_too.printed ∙ keeps.printed));
    err = tt;
    moments = until_reply mid done new sees keeps files settling keeps_too installed moments printing;
  }
  replied mid done new (Err fault) sees keeps files settling keeps_too installed moments printing is =
      let shown = is.1 in
      record {
        firm = subst IsFirm (sym shown.1) (same_firm (state done) (take shown.0 bytes) installed.firm);
        ok = tt;
        err = subst (λ fault. Adds (state old).printed (state new).printed (λ part. Breaks deed (recovered_views (state old)) (recovered_views (state new)) part (end_by fault))) (sym is.0) (
          on_channel to (take shown.0 bytes),
          ap (λ (s : State). s.printed) shown.1 ∙ ap (λ (l : Sent). l ++ on_channel to (take shown.0 bytes)) (keeps_too.printed ∙ keeps.printed),
          inr (tagged_part to shown.0 bytes, one_left done new (take shown.0 bytes) installed shown.1),
        );
        moments = until_reply mid done new sees keeps files settling keeps_too installed moments printing;
      }

module _ {D : Type 0} (time : Timeline D) (state : D → State) (old : D) (deed : Deed) where
  abbrev Within : State → Files → Sent → Type 0
  Within s image sent = Adds s.printed sent (λ part. Breaks deed (recovered_views s) (recovered_view image ∷ []) part Stopped)

  read_moments : (mid : D) → ((m : Files) → IsImage (state old) m → IsIn (recovered_view m) (recovered_views (state old)))
      → EachSince time old mid (λ m o. IsImage (state old) m × (o ≡ (state old).printed)) → EachSince time old mid (Within (state old))
  read_moments mid sees moments =
      weaken time state _ (Within (state old)) old mid
      (λ m o here. ([], here.1 ∙ sym (append-nil (state old).printed), inl (refl, (recovered_view m, refl, sees m here.0)))) moments

  stays : (stop : RunError) (new : List Files) → new ≡ recovered_views (state old) → Stays (recovered_views (state old)) new (end_of stop)
  stays run_errors.Memory new same = same
  stays run_errors.Disk new same = same
  stays run_errors.Pipe new same = same

  -- no plan was made
  pub plan_failed : (new : D) (stop : RunError) (result : Result Outcome RunError) → IsErr result → IsErrAnd result (λ e. e ≡ stop)
      → ((m : Files) → IsImage (state old) m → IsIn (recovered_view m) (recovered_views (state old)))
      → IsFirm (state old) → OnlyReads time state old new → Performs time state end_of old new deed result
  plan_failed new stop result failed is sees firm reads = record {
    firm = subst IsFirm (sym reads.same) firm;
    ok = if_ok result _ failed;
    err = if_err result stop _ is ([], ap (λ (s : State). s.printed) reads.same ∙ sym (append-nil (state old).printed), inl (refl, stays stop _ (ap recovered_views reads.same)));
    moments = read_moments new sees reads.moments;
  }

  -- what is performed after the reads
  pub after_reads : (mid new : D) (result : Result Outcome RunError) → ((m : Files) → IsImage (state old) m → IsIn (recovered_view m) (recovered_views (state old)))
      → OnlyReads time state old mid → Performs time state end_of mid new deed result → Performs time state end_of old new deed result
  after_reads mid new result sees reads performs = record {
    firm = performs.firm;
    ok = subst (λ (s : State). IfOk result (DoesDeed deed s (state new))) reads.same performs.ok;
    err =
        subst
        (λ (s : State). IfErr result
        (λ stop. Adds s.printed (state new).printed (λ part. Breaks deed (recovered_views s) (recovered_views (state new)) part (end_of stop))))
        reads.same performs.err;
    moments = joined time state (Within (state old)) old mid new (read_moments mid sees reads.moments) (subst (λ (s : State). EachSince time mid new (Within s)) reads.same performs.moments);
  }

-- the machine's fault as a stop
pub stopped_by : {D : Type 0} (time : Timeline D) (state : D → State) (old new : D) (deed : Deed) (fault : MachineFault) (result : Result Outcome RunError)
    → IsErr result → IsErrAnd result (λ stop. stop ≡ run_error_of fault) → Performs time state end_by old new deed (Err fault) → Performs time state end_of old new deed result
stopped_by time state old new what fault result failed is performs = record {
  firm = performs.firm;
  ok = if_ok result _ failed;
  err = if_err result (run_error_of fault) _ is performs.err;
  moments = performs.moments;
}

pub done_by : {D : Type 0} (time : Timeline D) (state : D → State) (old new : D) (deed : Deed) (outcome : Outcome)
    → Performs time state end_by old new deed (Ok outcome) → Performs time state end_of old new deed (Ok outcome)
done_by time state old new what outcome performs = record { firm = performs.firm; ok = performs.ok; err = tt; moments = performs.moments }
