-- A reply and the line behind it.
use Rattle.std.proofs.Common.{◌≡◌, inl, inr, ℕ, List, [], ◌∷◌, ◌++◌, take, refl, sym, ap, ◌∙◌, subst, append_assoc, Result, Ok, Err, IsErr, IsErrAnd, append-nil}
use Rattle.boot_machine.specs.Prelude.{Files, State, IsIn, recovered_view, IsImage, IsFirm, Timeline, EachSince, on_channel, with_printed, Sent, Adds, PrintsPart, recovered_views, recovered_now}
use Rattle.boot_machine.specs.declared.machine.Channel.TheVariants.{Out, Err as ErrChannel}
use Rattle.boot_machine.proofs.Elapsing.{weaken, joined, at_once}
use Rattle.boot_machine.proofs.Printing.{prefix_more, prefix_behind, tagged_part}
use Rattle.command_plans.specs.Deeds.{Deed, End, Stopped, Finished, NoMemory as WithoutMemory, DiskFails, PipeFails, Breaks}
use Rattle.command_plans.specs.Prelude.{Performs, end_of}
use Rattle.command_plans.specs.declared.outcome.Outcome.{Outcome}
use Rattle.command_plans.specs.declared.outcome.Outcome.TheVariants.{Refused}
use Rattle.command_plans.specs.declared.outcome.RunError.{RunError}
use Rattle.command_plans.specs.declared.outcome.RunError.TheVariants.{Pipe, Memory}
use Rattle.command_plans.proofs.Exits.{if_ok, if_err}
use Rattle.boot_run.specs.Lines.{Prints, unread_deed}
use Rattle.boot_run.proofs.Staying.{image_stays}

-- a deed that says this behind its reply
abbrev pub behind : Deed → (List ℕ) → Deed
behind deed ack = record { settles = deed.settles; outcome = deed.outcome; after = deed.after; sent = deed.sent ++ on_channel Out ack }

-- breaking off in a deed is breaking off in it with more behind
pub breaks_more : (deed : Deed) (ack : (List ℕ)) (old new : List Files) (part : Sent) (end : End) → Breaks deed old new part end → Breaks (behind deed ack) old new part end
breaks_more deed ack old new part end (inl stays) = inl stays
breaks_more deed ack old new part Stopped (inr acts) = inr (prefix_more part deed.sent (on_channel Out ack) acts.0, acts.1)
breaks_more deed ack old new part PipeFails (inr acts) = inr (prefix_more part deed.sent (on_channel Out ack) acts.0, acts.1)
breaks_more deed ack old new part DiskFails (inr acts) = inr acts
breaks_more deed ack old new part WithoutMemory (inr acts) = absurd acts
breaks_more deed ack old new part Finished (inr acts) = absurd acts

module _ {D : Type 0} (time : Timeline D) (state : D → State) (old : D) where
  abbrev Within : Deed → Files → Sent → Type 0
  Within deed image sent = Adds (state old).printed sent (λ part. Breaks deed (recovered_views (state old)) (recovered_view image ∷ []) part Stopped)

  -- there was no memory for the texts
  pub no_memory_yet : (deed : Deed) (result : Result Outcome RunError) → IsErr result → IsErrAnd result (λ stop. stop ≡ Memory) → IsFirm (state old)
      →
      ((m : Files) (o : Sent) → time.since old (time.clock old) m o → IsIn (recovered_view m) (recovered_views (state old)) × (o ≡ (state old).printed))
      → Performs time state end_of old old deed result
  no_memory_yet deed result failed is firm at_start = record {
    firm = firm;
    ok = if_ok result _ failed;
    err = if_err result Memory _ is ([], sym (append-nil (state old).printed), inl (refl, refl));
    moments = at_once time state (Within deed) old (λ m o left. let now = at_start m o left in ([], now.1 ∙ sym (append-nil (state old).printed), inl (refl, (recovered_view m, refl, now.0))));
  }

  -- the reply to a line that is no command
  pub refused_unread : (new : D) (number : ℕ) (text : (List ℕ)) (result : Result Outcome RunError) (k : ℕ)
      → ((m : Files) → IsImage (state old) m → IsIn (recovered_view m) (recovered_views (state old))) → IsFirm (state old)
      → EachSince time old new (PrintsPart (state old) (on_channel ErrChannel text)) → state new ≡ with_printed ErrChannel (take k text) (state old)
      → IsErr result → IsErrAnd result (λ stop. stop ≡ Pipe) → Performs time state end_of old new (unread_deed number text (recovered_now (state old))) result
  refused_unread new number text result k sees firm moments shown failed is = record {
    firm = subst IsFirm (sym shown) (record { unseen = firm.unseen; intent = firm.intent; unnamed = firm.unnamed });
    ok = if_ok result _ failed;
    err = if_err result Pipe _ is (on_channel ErrChannel (take k text), ap (λ (s : State). s.printed) shown, inr (tagged_part ErrChannel k text, ap recovered_views shown));
    moments = unread_moments new number text sees moments;
  }
    where
      unread_moments : (new : D) (number : ℕ) (text : (List ℕ))
          → ((m : Files) → IsImage (state old) m → IsIn (recovered_view m) (recovered_views (state old)))
          → EachSince time old new (PrintsPart (state old) (on_channel ErrChannel text))
          → EachSince time old new (Within (unread_deed number text (recovered_now (state old))))
      unread_moments new number text sees moments =
          weaken time state _ (Within (unread_deed number text (recovered_now (state old)))) old new
          (λ m o prints. (prints.part.0, prints.part.1, inr (prints.part.2, (recovered_view m, refl, sees m prints.stands)))) moments

  pub told_unread : (new : D) (number : ℕ) (text : (List ℕ)) → ((m : Files) → IsImage (state old) m → IsIn (recovered_view m) (recovered_views (state old))) → IsFirm (state old)
      → EachSince time old new (PrintsPart (state old) (on_channel ErrChannel text)) → state new ≡ with_printed ErrChannel text (state old)
      → Performs time state end_of old new (unread_deed number text (recovered_now (state old))) (Ok (Refused number))
  told_unread new number text sees firm moments shown = record {
    firm = subst IsFirm (sym shown) (record { unseen = firm.unseen; intent = firm.intent; unnamed = firm.unnamed });
    ok = (refl, ap recovered_views shown, ap (λ (s : State). s.printed) shown);
    err = tt;
    moments =
        weaken time state _ (Within (unread_deed number text (recovered_now (state old)))) old new
        (λ m o prints. (prints.part.0, prints.part.1, inr (prints.part.2, (recovered_view m, refl, sees m prints.stands)))) moments;
  }

  module _ (deed : Deed) (ack : (List ℕ)) where
    earlier : (mid : D) → EachSince time old mid (Within deed) → EachSince time old mid (Within (behind deed ack))
    earlier mid moments = weaken time state (Within deed) (Within (behind deed ack)) old mid (λ m o adds. (adds.0, adds.1, breaks_more deed ack _ _ adds.0 Stopped adds.2)) moments

    -- the deed itself was broken off
    pub not_behind : (new : D) (stop : RunError) (result : Result Outcome RunError) → IsErr result → IsErrAnd result (λ e. e ≡ stop)
        → Performs time state end_of old new deed (Err stop) → Performs time state end_of old new (behind deed ack) result
    not_behind new stop result failed is performs = record {
      firm = performs.firm;
      ok = if_ok result _ failed;
      err = if_err result stop _ is (performs.err.0, performs.err.1, breaks_more deed ack _ _ performs.err.0 (end_of stop) performs.err.2);
      moments = earlier new performs.moments;
    }

    both_moments : (mid new : D) (outcome : Outcome) → Performs time state end_of old mid deed (Ok outcome)
        → ((m : Files) → IsImage (state mid) m → IsIn (recovered_view m) (recovered_views (state mid)))
        → EachSince time mid new (PrintsPart (state mid) (on_channel Out ack)) → EachSince time old new (Within (behind deed ack))
    both_moments mid new outcome performs sees moments = joined time state (Within (behind deed ack)) old mid new (earlier mid performs.moments)
        (weaken time state _ (Within (behind deed ack)) mid new (λ m o prints. (
          deed.sent ++ prints.part.0,
          prints.part.1 ∙ ap (λ (l : Sent). l ++ prints.part.0) performs.ok.2 ∙ append_assoc (state old).printed deed.sent prints.part.0,
          inr (
            prefix_behind deed.sent prints.part.0 (on_channel Out ack) prints.part.2,
            (recovered_view m, refl, subst (λ (l : List Files). IsIn (recovered_view m) l) performs.ok.1 (sees m prints.stands)),
          ),
        )) moments)

    -- the line behind it couldn't be printed
    pub behind_failed : (mid new : D) (outcome : Outcome) (result : Result Outcome RunError) → IsErr result → IsErrAnd result (λ stop. stop ≡ Pipe) → Performs time state end_of old mid deed (Ok outcome)
        → ((m : Files) → IsImage (state mid) m → IsIn (recovered_view m) (recovered_views (state mid)))
        → EachSince time mid new (PrintsPart (state mid) (on_channel Out ack)) → (k : ℕ) × (state new ≡ with_printed Out (take k ack) (state mid))
        → Performs time state end_of old new (behind deed ack) result
    behind_failed mid new outcome result failed is performs sees moments shown = record {
      firm = subst IsFirm (sym shown.1) (record { unseen = performs.firm.unseen; intent = performs.firm.intent; unnamed = performs.firm.unnamed });
      ok = if_ok result _ failed;
      err = if_err result Pipe _ is (
        deed.sent ++ on_channel Out (take shown.0 ack),
        ap (λ (s : State). s.printed) shown.1 ∙ ap (λ (l : Sent). l ++ on_channel Out (take shown.0 ack)) performs.ok.2
            ∙ append_assoc (state old).printed deed.sent (on_channel Out (take shown.0 ack)),
        inr (prefix_behind deed.sent (on_channel Out (take shown.0 ack)) (on_channel Out ack) (tagged_part Out shown.0 ack), ap recovered_views shown.1 ∙ performs.ok.1),
      );
      moments = both_moments mid new outcome performs sees moments;
    }

    -- reply and line are printed
    pub behind_done : (mid new : D) (outcome : Outcome) → Performs time state end_of old mid deed (Ok outcome)
        → ((m : Files) → IsImage (state mid) m → IsIn (recovered_view m) (recovered_views (state mid)))
        → EachSince time mid new (PrintsPart (state mid) (on_channel Out ack)) → state new ≡ with_printed Out ack (state mid)
        → Performs time state end_of old new (behind deed ack) (Ok outcome)
    behind_done mid new outcome performs sees moments shown = record {
      firm = subst IsFirm (sym shown) (record { unseen = performs.firm.unseen; intent = performs.firm.intent; unnamed = performs.firm.unnamed });
      ok = (
        performs.ok.0,
        ap recovered_views shown ∙ performs.ok.1,
        ap (λ (s : State). s.printed) shown ∙ ap (λ (l : Sent). l ++ on_channel Out ack)
            performs.ok.2 ∙ append_assoc (state old).printed deed.sent (on_channel Out ack),
      );
      err = tt;
      moments = both_moments mid new outcome performs sees moments;
    }

  -- nothing is printed yet of a text
  pub printed_not : (text : Sent) → ((m : Files) (o : Sent) → time.since old (time.clock old) m o → IsImage (state old) m × (o ≡ (state old).printed))
      → EachSince time old old (PrintsPart (state old) text)
  printed_not text at_start = at_once time state (PrintsPart (state old) text) old
      (λ m o left. let now = at_start m o left in record { stands = now.0; part = ([], now.1 ∙ sym (append-nil (state old).printed), (text, refl)) })

  -- a part of it is printed, with more behind
  pub printed_first : (new : D) (text more : Sent) → EachSince time old new (PrintsPart (state old) text) → EachSince time old new (PrintsPart (state old) (text ++ more))
  printed_first new text more moments = weaken time state (PrintsPart (state old) text) (PrintsPart (state old) (text ++ more)) old new
      (λ m o prints. record { stands = prints.stands; part = (prints.part.0, prints.part.1, prefix_more prints.part.0 text more prints.part.2) }) moments

  -- it is printed, and then a part of what is behind
  pub printed_both : (mid new : D) (text more : Sent) → Prints (state old) (state mid) → (state mid).printed ≡ (state old).printed ++ text
      → EachSince time old mid (PrintsPart (state old) text) → EachSince time mid new (PrintsPart (state mid) more) → EachSince time old new (PrintsPart (state old) (text ++ more))
  printed_both mid new text more same printed first second = joined time state (PrintsPart (state old) (text ++ more)) old mid new
      (printed_first mid text more first)
      (weaken time state (PrintsPart (state mid) more) (PrintsPart (state old) (text ++ more)) mid new
      (λ m o prints. record {
        stands = image_stays (state old) (state mid) same m prints.stands;
        part = (
          text ++ prints.part.0,
          prints.part.1 ∙ ap (λ (l : Sent). l ++ prints.part.0) printed ∙ append_assoc (state old).printed text prints.part.0,
          prefix_behind text prints.part.0 more prints.part.2,
        );
      }) second)
