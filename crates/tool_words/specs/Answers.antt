-- How what the code holds and answers is read by the definitions.
use Rattle.std.specs.Prelude.{◌≡◌, Result, Ok, Err, MatchResult}
use Rattle.tool_words.specs.declared.fault.UsageReason.{UsageReason}
use Rattle.tool_words.specs.declared.fault.WordsFault.{WordsFault}
use Rattle.tool_words.specs.declared.fault.WordsFault.TheVariants.{Memory, Usage}

-- the fault is the reason that is meant, or want of memory
abbrev pub FaultIs : {A : Type 0} → WordsFault → Result A UsageReason → Type 0
FaultIs Memory meant = Unit {0}
FaultIs (Usage reason) meant = meant ≡ Err reason

-- What is answered, seen by view, is what is meant. Only want of memory is free.
abbrev pub Gives : {X A : Type 0} → (X → A) → Result X WordsFault → Result A UsageReason → Type 0
Gives view result meant = MatchResult result (λ x. meant ≡ Ok (view x)) (λ fault. FaultIs fault meant)

-- the fault is this reason, or want of memory
abbrev pub IsReason : WordsFault → UsageReason → Type 0
IsReason Memory reason = Unit {0}
IsReason (Usage given) reason = given ≡ reason
