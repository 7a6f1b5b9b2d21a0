-- A turn of a run's loop, a refused step, and the end, over plain variables.
use mathlib.Core.Path.{◌≡◌, sym, ◌∙◌, ap}
use mathlib.Core.Bool.{false}
use lib.Dec.{eqb}
use Prim.Native.Nat.{ℕ, ◌-◌, ◌<◌, ◌≤◌, ◌+◌}
use lib.ListN.{length}
use native.Mathlib.Omega.{arith}
use borrow.Author.Tests.{eqb-false, lt-ltb, le-ltb, not-true}
use Rattle.std.specs.Prelude.{Ok, Err}
use Rattle.laws.specs.Until.{until_range, until_end, until_stop, until_turn}
use Rattle.entry.specs.declared.answer.Answered.{Answered}
use Rattle.entry.specs.declared.refusals.Refusal.{Refusal}
use Rattle.entry.specs.declared.step.Step.{Step}
use Rattle.entry.specs.Refusals.{accepted, number_of}
use Rattle.entry.specs.Answer.{refusal_number, is_refusal, refused_by}
use Rattle.rules.specs.declared.Dims.{Dims}
use Rattle.rules.specs.declared.Caches.{Caches}
use Rattle.rules.specs.State.{Outcome, outcome}
use Rattle.rules.specs.Step.{take_step}
use Rattle.rules.specs.Run.{Steps, step_at, Columns, written, Carried, carried, outcome_at, refusal_at, stops_at, turn, stopped}
use Rattle.rules.proofs.Refusing.{tells_refusal, refused_stays}
use Rattle.runs.specs.Halting.{halted}

module _ (d : Dims) (x : Steps) (i : ℕ) (c : Carried) (whole : ℕ × Carried)
    (inv : until_range (stops_at d x) (turn d x) i (length x.ops - i) c ≡ whole) where
  abbrev pub n : ℕ
  n = length x.ops

  pub ran_out : n ≤ i → i ≤ n → halted d x (Ok tt) c ≡ stopped d x n whole
  ran_out h l = let e : n ≡ i = omega arith in rw (← inv, until_end (stops_at d x) (turn d x) i n c h, le-ltb i n h, e)

  -- the step there answered a, and left s
  module _ (h : i < n) (y : Step) (ey : y ≡ step_at x i) (a : Answered) (s : Caches) (e : outcome a s ≡ take_step d y c.state) where
    told_is : a ≡ (outcome_at d x i c.state).told
    told_is = ap (λ (r : Outcome). r.told) e ∙ ap (λ z. (take_step d z c.state).told) ey

    after_is : s ≡ (outcome_at d x i c.state).after
    after_is = ap (λ (r : Outcome). r.after) e ∙ ap (λ z. (take_step d z c.state).after) ey

    -- the run stops where the answer is a refusal
    stops_is : is_refusal a.answer ≡ stops_at d x i c
    stops_is = ap (λ (z : Answered). is_refusal z.answer) told_is ∙ tells_refusal d (step_at x i) c.state

    -- a refused step leaves the state as it was
    pub halts : (r : Refusal) → a ≡ refused_by (number_of r)
        → halted d x (Err (record { taken = i; refusal = r })) (carried s c.columns) ≡ stopped d x n whole
    halts r ea =
        let stops = sym stops_is ∙ ap (λ (z : Answered). is_refusal z.answer) ea in
        let refused = eqb-false (refusal_at d x i c.state) accepted (not-true (eqb (refusal_at d x i c.state) accepted) stops) in
        rw (
          ← inv,
          until_stop (stops_at d x) (turn d x) i n c h stops,
          lt-ltb i n h,
          ap (λ (z : Answered). refusal_number z.answer) (sym ea ∙ told_is),
          after_is ∙ refused_stays d (step_at x i) c.state refused,
        )

    pub takes_turn : is_refusal a.answer ≡ false → (cs : Columns) → cs ≡ written c.columns i a
        → until_range (stops_at d x) (turn d x) (i + 1) (n - (i + 1)) (carried s cs) ≡ whole
    takes_turn f cs ec =
        rw (ec, told_is, after_is) (sym (until_turn (stops_at d x) (turn d x) i n c h (sym stops_is ∙ f)) ∙ inv)
