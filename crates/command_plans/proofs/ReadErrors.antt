-- What has nothing to say.
use Rattle.std.proofs.Common.{◌≡◌, Result, Ok, Err, subst, sym, IsErr, IsErrAnd}
use Rattle.boot_base.specs.declared.refusal.Refusal.{Refusal}
use Rattle.command_plans.specs.Prelude.{Says, ReadErrorFor}
use Rattle.command_plans.specs.declared.read_error.ReadError.{ReadError}
use Rattle.command_plans.specs.declared.read_error.ReadError.TheVariants as read_errors

-- what isn't refused has run out of memory, or the disk failed
pub unrefused : {X Y : Type 0} (fault : ReadError) (x : X) (meant : Result Y Refusal) → ReadErrorFor fault (Ok x) → ReadErrorFor fault meant
unrefused read_errors.Memory x meant why = tt
unrefused read_errors.Disk x meant why = tt
unrefused (read_errors.Refused refusal) x meant why = cc

pub says_read_error : {X Y : Type 0} (result : Result X ReadError) (fault : ReadError) (view : X → Y) (meant : Result Y Refusal) → IsErr result
    → IsErrAnd result (λ e. e ≡ fault) → ReadErrorFor fault meant → Says view result meant
says_read_error (Ok x) fault view meant failed is why = cc
says_read_error (Err e) fault view meant failed is why = subst (λ d. ReadErrorFor d meant) (sym is) why
