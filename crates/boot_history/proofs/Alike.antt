-- What a run prints and does before its first command is the same from each view.
use Rattle.std.proofs.Common.{◌≡◌, ◌≢◌, ◌⊎◌, ⊎_elim, ℕ, zero, suc, ◌≤◌, ◌<◌, List, [], ◌∷◌, ◌++◌, length, map, take, refl, sym, ap, ◌∙◌, subst, arith, append_assoc, length-append, Result, Ok, Err, length-take}
use Rattle.word_grammar.specs.Grammar.{Word}
use Rattle.tool_words.specs.Meaning.{meaning}
use Rattle.tool_words.specs.declared.fault.UsageReason.{UsageReason}
use Rattle.boot_machine.specs.Prelude.{Files, Sent, IsPrefix}
use Rattle.tool_words.specs.declared.command.Command.{Command}
use Rattle.tool_words.specs.declared.command.Command.TheVariants as command
use Rattle.tool_words.specs.declared.action.Action.{Action}
use Rattle.boot_commands.specs.Expansions.{expansion}
use Rattle.boot_commands.proofs.Expansions.{expansion_some}
use Rattle.boot_run.specs.AskedLines.{asked_lines, lines_for, lines_to_run}
use Rattle.boot_run.specs.Lines.{line_deed}
use Rattle.boot_run.specs.Step.{Acknowledges, AllUnread, NoneEmpty, join_replies, replies}
use Rattle.boot_run.specs.declared.line.Line.{Line}
use Rattle.boot_run.specs.declared.line.Line.TheVariants.{Plain, Part, Numbered, Unread, TooLong}
use Rattle.boot_run.proofs.Replying.{none_empty}
use Rattle.boot_run.proofs.Stepping.{length-prefix, some_length}

-- the leading lines without a command are the same, and so are words that are no command
abbrev pub AreAlike : Result (List Line) UsageReason → Result (List Line) UsageReason → Type 0
AreAlike (Ok lines) (Ok others) = (j : ℕ) → AllUnread (take j lines) → take j others ≡ take j lines
AreAlike (Ok lines) (Err reason) = ⊥
AreAlike (Err reason) (Ok others) = ⊥
AreAlike (Err reason) (Err other) = other ≡ reason

-- the lines of actions have no leading one without
parts_alike : (actions others : List Action) → actions ≢ [] → (j : ℕ) → AllUnread (take j (map Part actions))
    → take j (map Part others) ≡ take j (map Part actions)
parts_alike actions others some zero all = refl
parts_alike [] others some (suc j) all = absurd (some refl)
parts_alike (first ∷ more) others some (suc j) all = cc

lines_alike : (input : List ℕ) (c : Command) (view other : Files)
    → AreAlike (Ok (lines_for input view c)) (Ok (lines_for input other c))
lines_alike input command.Script view other = λ j all. refl
lines_alike input (command.One c) view other = λ j all. refl
lines_alike input (command.Several c) view other = parts_alike (expansion view c) (expansion other c) (expansion_some view c)

meant_alike : (input : List ℕ) (meant : Result Command UsageReason) (view other : Files)
    → AreAlike (lines_to_run input view meant) (lines_to_run input other meant)
meant_alike input (Ok c) view other = lines_alike input c view other
meant_alike input (Err reason) view other = refl

-- the leading lines without a command don't depend on the view
pub asked_alike : (words : List Word) (input : List ℕ) (view other : Files)
    → AreAlike (asked_lines words input view) (asked_lines words input other)
asked_alike words input view other = meant_alike input (meaning words) view other

-- ---- replies

pub length-replies : (view : Files) (lines : List Line) → length (replies view lines) ≡ length lines
length-replies view [] = refl
length-replies view (line ∷ lines) = ap suc (length-replies (line_deed view line).after lines)

-- the first replies joined are a first part of all of them
front_of : (all : List Sent) (k : ℕ) → IsPrefix (join_replies (take k all)) (join_replies all)
front_of all zero = (join_replies all, refl)
front_of [] (suc k) = ([], refl)
front_of (reply ∷ all) (suc k) =
    let rest = front_of all k in
    (rest.0, append_assoc reply (join_replies (take k all)) rest.0 ∙ ap (λ (l : Sent). reply ++ l) rest.1)

prefix_trans : (a b c : Sent) → IsPrefix a b → IsPrefix b c → IsPrefix a c
prefix_trans a b c p q = (p.0 ++ q.0, sym (append_assoc a p.0 q.0) ∙ ap (λ (l : Sent). l ++ q.0) p.1 ∙ q.1)

-- of replies that aren't empty more are longer
longer : (view : Files) (lines : List Line) (i j : ℕ) → NoneEmpty view lines → i < j → j ≤ length lines
    → length (join_replies (take i (replies view lines))) < length (join_replies (take j (replies view lines)))
longer view lines i zero some lt le = absurd (omega arith)
longer view [] i (suc j) some lt le = absurd (omega arith)
longer view (line ∷ lines) zero (suc j) some lt le =
    omega (
      arith,
      some_length _ some.0,
      length-append (line_deed view line).sent (join_replies (take j (replies (line_deed view line).after lines))),
    )
longer view (line ∷ lines) (suc i) (suc j) some lt le =
    omega (
      arith,
      longer (line_deed view line).after lines i j some.1 (omega arith) (omega arith),
      length-append (line_deed view line).sent (join_replies (take i (replies (line_deed view line).after lines))),
      length-append (line_deed view line).sent (join_replies (take j (replies (line_deed view line).after lines))),
    )

-- the replies to lines without a command are the same from each view
unread_replies : (view other : Files) (lines : List Line) → AllUnread lines → replies view lines ≡ replies other lines
unread_replies view other [] all = refl
unread_replies view other (Plain command ∷ lines) all = cc
unread_replies view other (Part action ∷ lines) all = cc
unread_replies view other (Numbered number command ∷ lines) all = cc
unread_replies view other (Unread number ∷ lines) all =
    ap (λ (l : List Sent). (line_deed view (Unread number)).sent ∷ l) (unread_replies view other lines all.1)
unread_replies view other (TooLong ∷ lines) all =
    ap (λ (l : List Sent). (line_deed view TooLong).sent ∷ l) (unread_replies view other lines all.1)

replies-take : (view : Files) (lines : List Line) (k : ℕ) → take k (replies view lines) ≡ replies view (take k lines)
replies-take view lines zero = refl
replies-take view [] (suc k) = refl
replies-take view (line ∷ lines) (suc k) =
    ap (λ (l : List Sent). (line_deed view line).sent ∷ l) (replies-take (line_deed view line).after lines k)

take-take : {A : Type 0} (k j : ℕ) (l : List A) → k ≤ j → take k (take j l) ≡ take k l
take-take zero j l le = refl
take-take (suc k) zero l le = absurd (omega arith)
take-take (suc k) (suc j) [] le = refl
take-take (suc k) (suc j) (x ∷ l) le = ap (λ r. x ∷ r) (take-take k j l (omega arith))

-- ---- lines that are asked at two views

module _ (view other : Files) (lines others : List Line) (leading : ℕ) (all : AllUnread (take leading lines))
    (alike : take leading others ≡ take leading lines) where
  -- the first replies are the same
  same_replies : (k : ℕ) → k ≤ leading → take k (replies other others) ≡ take k (replies view lines)
  same_replies k le =
      sym (take-take k leading (replies other others) le)
      ∙ ap (λ (l : List Sent). take k l)
      (replies-take other others leading ∙ ap (replies other) alike
      ∙ unread_replies other view (take leading lines) all ∙ sym (replies-take view lines leading))
      ∙ take-take k leading (replies view lines) le

  pub still_unread : AllUnread (take leading others)
  still_unread = subst AllUnread (sym alike) all

  shorter : (j : ℕ) → j ≤ leading → j ≤ length others → j ≤ length lines
  shorter j le within = omega (arith, length-take leading others, length-take leading lines, ap length alike)

  pub shorter_back : (j : ℕ) → j ≤ leading → j ≤ length lines → j ≤ length others
  shorter_back j le within = omega (arith, length-take leading others, length-take leading lines, ap length alike)

  -- what is printed is a first part of the replies from the other view
  pub front_again : (sent : Sent) → IsPrefix sent (join_replies (take leading (replies view lines)))
      → IsPrefix sent (join_replies (replies other others))
  front_again sent front =
      prefix_trans sent (join_replies (take leading (replies other others))) (join_replies (replies other others))
      (subst (λ (l : List Sent). IsPrefix sent (join_replies l)) (sym (same_replies leading (omega arith))) front)
      (front_of (replies other others) leading)

  -- as many are acknowledged
  pub acked_again : (sent : Sent) (k : ℕ) → k ≤ leading → IsPrefix sent (join_replies (take leading (replies view lines)))
      → Acknowledges (replies view lines) sent k → Acknowledges (replies other others) sent k
  acked_again sent k le front acked = record {
    within = omega (
      arith,
      shorter_back k le (omega (arith, acked.within, length-replies view lines)),
      length-replies other others,
    );
    whole = subst (λ (l : List Sent). IsPrefix (join_replies l) sent) (sym (same_replies k le)) acked.whole;
    most = most;
  }
    where
      few_or_many : (j : ℕ) → (j ≤ leading) ⊎ (leading < j)
      few_or_many j = grind arith

      most : (j : ℕ) → j ≤ length (replies other others) → IsPrefix (join_replies (take j (replies other others))) sent
          → j ≤ k
      most j within p = ⊎_elim
          (λ (few : j ≤ leading). acked.most j
          (omega (
            arith,
            length-replies view lines,
            length-replies other others,
            shorter j few (omega (arith, length-replies other others)),
          ))
          (subst (λ (l : List Sent). IsPrefix (join_replies l) sent) (same_replies j few) p))
          (λ (many : leading < j). absurd (omega (
            arith,
            longer other others leading j (none_empty other others) many (omega (arith, length-replies other others)),
            length-prefix _ _ p,
            length-prefix _ _ front,
            ap (λ (l : List Sent). length (join_replies l)) (same_replies leading (omega arith)),
          )))
          (few_or_many j)
