-- Every step keeps a sound state sound, from any sound state, a refused one too; so does a step of the machine, and a run.
use mathlib.Core.Path.{◌≡◌, refl, subst⁻¹}
use mathlib.Core.Bool.{Bool, true, false}
use Prim.Native.Nat.{ℕ, ◌<◌}
use native.Mathlib.Omega.{arith}
use lib.Dec.{eqb}
use lib.ListN.{length}
use borrow.Author.Tests.{eqb-true, eqb-false}
use Rattle.laws.specs.Choice.{pick}
use Rattle.laws.specs.Until.{until_inv}
use Rattle.entry.specs.declared.step.Step.{Step}
use Rattle.entry.specs.Answer.{refusal_number, refused_by}
use Rattle.entry.specs.Refusals.{accepted, not_sound, bad_columns}
use Rattle.rules.specs.declared.Dims.{Dims}
use Rattle.rules.specs.declared.Machine.{Machine}
use Rattle.rules.specs.declared.Caches.{Caches}
use Rattle.rules.specs.State.{caches_of}
use Rattle.rules.specs.Sound.{Sound}
use Rattle.rules.specs.SoundTest.{sound_of}
use Rattle.rules.specs.Step.{take_step, stepped, stepped_of, step_of}
use Rattle.rules.specs.Run.{Steps, Columns, columns_ok, Carried, carried, left, step_at, stops_at, turn, run_sound, run_of}
use Rattle.rules.proofs.Refusing.{refusal_of, refused_stays}
use Rattle.rules.proofs.Taken.{Taken, taken}
use Rattle.theory.proofs.Coherent.{coherent_step}
use Rattle.sound.proofs.Exact.{sound_true}
use Rattle.serial.specs.Taking.{value_end, Values, SoundState, answer_to}
use Rattle.serial.proofs.Requests.{beyond_none}
use Rattle.serial.proofs.Steps.{step_does}
use Rattle.serial.proofs.SoundFit.{sound_fit}
use Rattle.serial.proofs.SoundCoherent.{sound_coherent, seen_coarse}
use Rattle.serial.proofs.FitSound.{fit_sound}

pub step_kept : {d : Dims} {s : Caches} → SoundState d s → (x : Step) → x.value < value_end → SoundState d (take_step d x s).after
step_kept {d} {s} G x lv = by (eqb n accepted) refl
  where
    n : ℕ
    n = refusal_of (take_step d x s)

    by : (b : Bool) → eqb n accepted ≡ b → SoundState d (take_step d x s).after
    by true h =
        let F = sound_fit G.sound G.values in
        let o = step_does F x (taken d x s (eqb-true n accepted h)) lv in
        let C = coherent_step d.processors (sound_coherent G.sound G.values) (seen_coarse F) (beyond_none d (take_step d x s).after)
        o.step in
        record { sound = fit_sound o.fit C G.sound.dimensions; values = o.fit.frame.memory.small }
    by false h = subst⁻¹ (SoundState d) (refused_stays d x s (eqb-false n accepted h)) G

-- what a step that is not refused is
pub record Stepping (m : Machine) (x : Step) : Type 0 where
  pub fields : Taken m.dims x
  pub is : step_of m x ≡ stepped_of m.dims (take_step m.dims x (caches_of m))

pub accepted_stepping : (m : Machine) (x : Step) → refusal_number (answer_to m x) ≡ accepted → Stepping m x
unfolding step_of
accepted_stepping m x e = by (sound_of m.dims (caches_of m)) refl e
  where
    by : (a : Bool) → sound_of m.dims (caches_of m) ≡ a
        → refusal_number
        (pick a (stepped_of m.dims (take_step m.dims x (caches_of m))) (stepped (refused_by not_sound) m)).told.answer
        ≡ accepted → Stepping m x
    by true h e = record { fields = taken m.dims x (caches_of m) e; is = rw h }
    by false h e = absurd (omega (arith, e))

-- and the other way: from a sound state every step is the definition's
pub step_goes : (m : Machine) (x : Step) → Sound m.dims (caches_of m)
    → step_of m x ≡ stepped_of m.dims (take_step m.dims x (caches_of m))
unfolding step_of
step_goes m x Z = rw (sound_true m.dims (caches_of m) Z)

-- a run
module _ {d : Dims} (x : Steps) (values : Values x.values) where
  turn_kept : (i : ℕ) (c : Carried) → stops_at d x i c ≡ false → SoundState d c.state → SoundState d (turn d x i c).state
  turn_kept i c e G = step_kept G (step_at x i) (values i)

  sound_run_kept : (s : Caches) (c : Columns) → SoundState d s → SoundState d (caches_of (run_sound d x s c).ran.machine)
  unfolding run_sound
  sound_run_kept s c G = until_inv (λ (y : Carried). SoundState d y.state) (stops_at d x) (turn d x) turn_kept 0 (length x.ops) (carried s c) G

pub run_kept : (m : Machine) (x : Steps) (c : Columns) → Values x.values → SoundState m.dims (caches_of m)
    → SoundState m.dims (caches_of (run_of m x c).ran.machine)
unfolding run_of
run_kept m x c values G = by (sound_of m.dims (caches_of m)) (columns_ok x c)
  where
    by : (a b : Bool)
        → SoundState m.dims
        (caches_of (pick a (pick b (run_sound m.dims x (caches_of m) c) (left 0 bad_columns m c)) (left 0 not_sound m c)).ran.machine)
    by true true = sound_run_kept x values (caches_of m) c G
    by true false = G
    by false b = G
