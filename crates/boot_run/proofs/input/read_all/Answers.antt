use Rattle.std.proofs.Common.{◌≡◌, ◌⊎◌, inl, inr, ℕ, ◌+◌, ◌<◌, ◌≤◌, List, [], ◌++◌, length, take, drop, refl, sym, ap, ◌∙◌, arith, IsTrue}
use Rattle.std.proofs.Math.Seq.{drop-append-add, drop-append_seam}
use Rattle.std.proofs.lemmas.List.{append-nil, drop_all, take_all, take_at, take-append-le, length-take}
use Rattle.boot_machine.specs.Prelude.{State, IsImage, EachSince}
use Rattle.boot_machine.proofs.Elapsing.{at_once, input_moments}
use Rattle.boot_machine.proofs.Taking.{input_same, input_end, input_more, same_trans}
use Rattle.boot_run.proofs.input.read_all.Given as given
use Rattle.boot_run.proofs.input.read_all.Goals.{After-input}
use Rattle.boot_run.proofs.input.read_all.Goals as goal

module _ (g : given.Over) where
  open g.M.Machine use {tells, time, state}

  -- one more call
  read_moments : (c : After-input g) → IsTrue tells → EachSince time c.args.machine.now c.input.new.self
      (λ m o. IsImage (state c.args.machine.now) m × (o ≡ (state c.args.machine.now).printed))
  read_moments c told =
      input_moments time state c.args.machine.now c.loop-buffer.machine c.input.new.self
      (c.loop-buffer.invariant.same told) (input_same _ _ _ c.input.result (c.input.ensures.row told))
      (λ m o left. g.met.M.Machine.only_now c.loop-buffer.machine m o told left) (c.input.ensures.moments told) (c.loop-buffer.invariant.moments told)

  -- the part of the buffer that is read into isn't empty
  room : (c : After-input g) → 0 < length c.input.new.into
  room c = omega (
    arith,
    c.input.auto.into,
    c.min-room.ensures,
    c.len-in-loop-buffer.ensures,
    c.loop-buffer-test.true,
    c.len.ensures,
    length-take c.min-room.result c.loop-buffer.buffer,
  )

pub loop-buffer-init : goal.loop-buffer-init
loop-buffer-init g c = record {
  within = omega (arith, c.new-bytes.ensures.len);
  read = λ told. ap (λ (l : List ℕ). l ++ (g.M.Machine.state c.args.machine.now).input) (sym c.new-bytes.ensures.items);
  same = λ told. refl;
  moments = λ told. at_once g.M.Machine.time g.M.Machine.state _ c.args.machine.now (λ m o left. g.met.M.Machine.only_now c.args.machine.now m o told left);
  counts = refl;
}

pub returns-in_err-count-clause-moments : goal.returns-in_err-count-clause-moments
returns-in_err-count-clause-moments g c = read_moments g (goal.at.returns-in_err-count-clause-moments g c).After-input

pub returns-then-count-eq0-clause-moments : goal.returns-then-count-eq0-clause-moments
returns-then-count-eq0-clause-moments g c = read_moments g (goal.at.returns-then-count-eq0-clause-moments g c).After-input

pub returns-in_err-extend_from_slice-clause-moments : goal.returns-in_err-extend_from_slice-clause-moments
returns-in_err-extend_from_slice-clause-moments g c = read_moments g (goal.at.returns-in_err-extend_from_slice-clause-moments g c).After-input

-- what was read so far is the front of the input, at its end or past the limit
whole : (input read rest : List ℕ) → input ≡ read ++ rest → length read ≤ 1048577 → (rest ≡ []) ⊎ (length read ≡ 1048577) → read ≡ take 1048577 input
whole input read rest is le (inl none) = sym (ap (take 1048577) (is ∙ ap (λ (l : List ℕ). read ++ l) none ∙ append-nil read) ∙ take_all 1048577 read le)
whole input read rest is le (inr full) = sym (ap (take 1048577) is ∙ take_at read rest 1048577 full)

pub returns-then-count-eq0-clause-bytes : goal.returns-then-count-eq0-clause-bytes
returns-then-count-eq0-clause-bytes g c told =
    let row = c.in_ok-count.ensures.row told in
    let ok = c.loop-buffer.bytes.ok in
    let room = room g (goal.at.returns-then-count-eq0-clause-bytes g c).After-input in
    let none : (g.M.Machine.state c.loop-buffer.machine).input ≡ [] = input_end _ c.input.new.into c.in_ok-count.count row.0 c.if-count-eq0.true room in
    whole _ c.loop-buffer.bytes.items _ (c.loop-buffer.invariant.read told) (omega (arith, ok.0, c.loop-buffer.invariant.within)) (inl none)

pub loop-buffer-preserved : goal.loop-buffer-preserved
loop-buffer-preserved g c = record {
  within =
      let got : List ℕ = c.input.new.into ++ drop c.min-room.result c.loop-buffer.buffer in
      omega (
        arith,
        c.in_ok-extend_from_slice.ensures.len,
        length-take c.in_ok-count.count got,
        c.in_ok-count.ensures.within,
        c.input.auto.into,
        length-take c.min-room.result c.loop-buffer.buffer,
        c.min-room.ensures,
        c.len-in-loop-buffer.ensures,
        c.loop-buffer-test.true,
        c.len.ensures,
      );
  read = λ told.
      let row = c.in_ok-count.ensures.row told in
      let items =
      c.in_ok-extend_from_slice.ensures.items
      ∙ ap (λ (l : List ℕ). c.loop-buffer.bytes.items ++ l)
      (take-append-le c.in_ok-count.count c.input.new.into (drop c.min-room.result c.loop-buffer.buffer) row.0.within) in
      input_more _ c.loop-buffer.bytes.items _ _ c.in_ok-count.count (c.loop-buffer.invariant.read told) row.0
      ∙ ap (λ (l : List ℕ). l ++ drop c.in_ok-count.count (g.M.Machine.state c.loop-buffer.machine).input) (sym items)
      ∙ ap (λ (l : List ℕ). c.extend_from_slice.new.self.items ++ l) (sym (ap (λ (s : State). s.input) row.1));
  same =
      λ told. same_trans (g.M.Machine.state c.args.machine.now) (g.M.Machine.state c.loop-buffer.machine) (g.M.Machine.state c.input.new.self)
      (c.loop-buffer.invariant.same told) (input_same _ _ _ c.input.result (c.input.ensures.row told));
  moments = read_moments g (goal.at.loop-buffer-preserved g c).After-input;
  counts = c.in_ok-count.ensures.counts ∙ c.loop-buffer.invariant.counts;
}

pub returns-clause-bytes : goal.returns-clause-bytes
returns-clause-bytes g c told =
    let ok = c.loop-buffer.bytes.ok in
    whole _ c.loop-buffer.bytes.items _ (c.loop-buffer.invariant.read told) (omega (arith, ok.0, c.loop-buffer.invariant.within))
    (inr (omega (arith, ok.0, c.loop-buffer.invariant.within, c.len.ensures, c.loop-buffer-test.false)))

-- what was read of the input, and what was taken behind it, are off it
taken_off : (input read rest : List ℕ) (n : ℕ) → input ≡ read ++ rest → drop n rest ≡ drop (length read + n) input
taken_off input read rest n is = sym (ap (drop (length read + n)) is ∙ drop-append-add read rest n)

-- at its end, or past the limit
whole_rest : (input read rest : List ℕ) → input ≡ read ++ rest → length read ≤ 1048577 → (rest ≡ []) ⊎ (length read ≡ 1048577) → rest ≡ drop 1048577 input
whole_rest input read rest is le (inl none) = none ∙ sym (ap (drop 1048577) (is ∙ ap (λ (l : List ℕ). read ++ l) none ∙ append-nil read) ∙ drop_all 1048577 read le)
whole_rest input read rest is le (inr full) = sym (ap (drop 1048577) is ∙ ap (λ (n : ℕ). drop n (read ++ rest)) (sym full) ∙ drop-append_seam read rest)

pub returns-in_err-count-clause-taken : goal.returns-in_err-count-clause-taken
returns-in_err-count-clause-taken g c told =
    let ok = c.loop-buffer.bytes.ok in
    let input = (g.M.Machine.state c.args.machine.now).input in (
      length c.loop-buffer.bytes.items + 0,
      omega (arith, ok.0, c.loop-buffer.invariant.within),
      ap (λ (s : State). s.input) (c.in_err-count.ensures.row told) ∙ taken_off input c.loop-buffer.bytes.items (g.M.Machine.state c.loop-buffer.machine).input 0 (c.loop-buffer.invariant.read told),
    )

pub returns-then-count-eq0-clause-taken : goal.returns-then-count-eq0-clause-taken
returns-then-count-eq0-clause-taken g c told =
    let ok = c.loop-buffer.bytes.ok in
    let row = c.in_ok-count.ensures.row told in
    let input = (g.M.Machine.state c.args.machine.now).input in (
      length c.loop-buffer.bytes.items + c.in_ok-count.count,
      omega (arith, ok.0, c.loop-buffer.invariant.within, c.if-count-eq0.true),
      ap (λ (s : State). s.input) row.1 ∙ taken_off input c.loop-buffer.bytes.items (g.M.Machine.state c.loop-buffer.machine).input c.in_ok-count.count (c.loop-buffer.invariant.read told),
    )

pub returns-in_err-extend_from_slice-clause-taken : goal.returns-in_err-extend_from_slice-clause-taken
returns-in_err-extend_from_slice-clause-taken g c told =
    let ok = c.loop-buffer.bytes.ok in
    let row = c.in_ok-count.ensures.row told in
    let input = (g.M.Machine.state c.args.machine.now).input in (
      length c.loop-buffer.bytes.items + c.in_ok-count.count,
      omega (
        arith,
        ok.0,
        c.loop-buffer.invariant.within,
        c.in_ok-count.ensures.within,
        c.input.auto.into,
        length-take c.min-room.result
            c.loop-buffer.buffer,
        c.min-room.ensures,
        c.len-in-loop-buffer.ensures,
        c.loop-buffer-test.true,
        c.len.ensures,
      ),
      ap (λ (s : State). s.input) row.1 ∙ taken_off input c.loop-buffer.bytes.items (g.M.Machine.state c.loop-buffer.machine).input c.in_ok-count.count (c.loop-buffer.invariant.read told),
    )

pub returns-clause-taken : goal.returns-clause-taken
returns-clause-taken g c told =
    let ok = c.loop-buffer.bytes.ok in
    let input = (g.M.Machine.state c.args.machine.now).input in (
      length c.loop-buffer.bytes.items + 0,
      omega (arith, ok.0, c.loop-buffer.invariant.within),
      taken_off input c.loop-buffer.bytes.items (g.M.Machine.state c.loop-buffer.machine).input 0 (c.loop-buffer.invariant.read told),
    )

pub returns-then-count-eq0-clause-rest : goal.returns-then-count-eq0-clause-rest
returns-then-count-eq0-clause-rest g c told =
    let row = c.in_ok-count.ensures.row told in
    let ok = c.loop-buffer.bytes.ok in
    let before = (g.M.Machine.state c.loop-buffer.machine).input in
    let room = room g (goal.at.returns-then-count-eq0-clause-rest g c).After-input in
    let none : before ≡ [] = input_end _ c.input.new.into c.in_ok-count.count row.0 c.if-count-eq0.true room in
    ap (λ (s : State). s.input) row.1 ∙ ap (λ (n : ℕ). drop n before) c.if-count-eq0.true
    ∙ whole_rest _ c.loop-buffer.bytes.items before (c.loop-buffer.invariant.read told) (omega (arith, ok.0, c.loop-buffer.invariant.within)) (inl none)

pub returns-clause-rest : goal.returns-clause-rest
returns-clause-rest g c told =
    let ok = c.loop-buffer.bytes.ok in
    whole_rest _ c.loop-buffer.bytes.items (g.M.Machine.state c.loop-buffer.machine).input (c.loop-buffer.invariant.read told)
    (omega (arith, ok.0, c.loop-buffer.invariant.within))
    (inr (omega (arith, ok.0, c.loop-buffer.invariant.within, c.len.ensures, c.loop-buffer-test.false)))
