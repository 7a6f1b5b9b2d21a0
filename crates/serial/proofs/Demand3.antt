-- DEMAND 3 and opacity: from a fresh machine, through any steps that the machine of demand 2 took.
use mathlib.Core.Path.{◌≡◌, refl, ◌∙◌, ap, subst, subst⁻¹, fun_ext}
use mathlib.Core.List.{List, ◌∷◌}
use Prim.Native.Nat.{ℕ, ◌<◌}
use borrow.Author.Tests.{lt-ltb}
use Rattle.entry.specs.declared.answer.Answer.{Answer}
use Rattle.entry.specs.declared.answer.Answer.TheVariants.{Value}
use Rattle.entry.specs.Refusals.{accepted}
use Rattle.rules.specs.declared.Dims.{Dims}
use Rattle.rules.specs.declared.Machine.{Machine}
use Rattle.rules.specs.declared.Stepped.{Stepped}
use Rattle.rules.specs.declared.Caches.{Caches}
use Rattle.rules.specs.State.{caches_of, machine_of}
use Rattle.rules.specs.Making.{fresh, make_of}
use Rattle.rules.specs.Settled.{settled_in}
use Rattle.rules.specs.Sound.{Sound}
use Rattle.rules.specs.Step.{take_step, settled_of, step_of}
use Rattle.theory.specs.Event.{Event}
use Rattle.theory.specs.Plain.{Serial, Opaque, after_events, unlogged}
use Rattle.theory.proofs.Settled.{settled, Coherent, coherent→agree}
use Rattle.theory.specs.Protocol
use Rattle.theory.proofs.History.{History, history_serial}
use Rattle.sound.proofs.Exact.{sound_true}
use Rattle.serial.specs.Shown.{shows}
use Rattle.serial.specs.Taking.{Values, start, StepAnswer, step_answer, Took, nothing, then, answer_to, events}
use Rattle.serial.proofs.Decode.{seen}
use Rattle.serial.proofs.Set.{Fit}
use Rattle.serial.proofs.Requests.{beyond_none}
use Rattle.serial.proofs.Ends.{Does}
use Rattle.serial.proofs.Steps.{step_does}
use Rattle.serial.proofs.SoundCoherent.{seen_coarse}
use Rattle.serial.proofs.FitSound.{fit_sound}
use Rattle.serial.proofs.Settles.{settled_in_lem}
use Rattle.serial.proofs.Fresh.{fresh_fit, fresh_bare, fresh_memory, made_of}
use Rattle.serial.proofs.Kept.{Stepping, accepted_stepping}

-- where the steps lead
pub record Reached (d : Dims) (s : Caches) (xs : List StepAnswer) (m' : Machine) : Type 0 where
  pub state : Caches
  pub is : m' ≡ machine_of d state
  pub fit : Fit d state
  pub history : History d.processors (seen d s) (events xs) (seen d state)

took_reaches : {m m' : Machine} {xs : List StepAnswer} (d : Dims) (s : Caches) → m ≡ machine_of d s → Fit d s → Took m xs m' → Reached d s xs m'
unfolding events
took_reaches d s e F nothing = record { state = s; is = e; fit = F; history = History.nothing }
took_reaches {m} {m'} d s e F (then {xs = xs} x lv r t) = from (took_reaches d after next does.fit t)
  where
    after : Caches
    after = (take_step d x s).after

    ok : Stepping (machine_of d s) x
    ok = subst (λ (y : Machine). Stepping y x) e (accepted_stepping m x r)

    next : (step_of m x).machine ≡ machine_of d after
    next = ap (λ (y : Machine). (step_of y x).machine) e ∙ ap (λ (y : Stepped). y.machine) ok.is

    answer : answer_to m x ≡ (take_step d x s).told.answer
    answer = ap (λ (y : Machine). answer_to y x) e ∙ ap (λ (y : Stepped). y.told.answer) ok.is

    does : Does d (seen d s) (shows x) (take_step d x s)
    does = step_does F x ok.fields lv

    from : Reached d after xs m' → Reached d s (step_answer x (answer_to m x) ∷ xs) m'
    from y = record {
      state = y.state;
      is = y.is;
      fit = y.fit;
      history = History.then
          (subst⁻¹ (λ (a : Answer). Protocol.Step d.processors (seen d s) (seen d after) (shows x a)) answer does.step)
          (beyond_none d after) y.history;
    }

-- all that is known of where the steps lead
pub record Agreed (d : Dims) (memory : List ℕ) (xs : List StepAnswer) (m : Machine) : Type 0 where
  pub serial : Serial (events xs) (start memory)
  pub opaque_reads : Opaque (events xs) (start memory)
  pub dims : m.dims ≡ d
  pub sound : Sound m.dims (caches_of m)
  pub values : Values m.caches.memory
  pub settled_value : (w : ℕ) → settled_in m.dims w (caches_of m) ≡ (after_events (events xs) (start memory)).val w

module _ (d : Dims) (memory : List ℕ) (values : Values memory) (ok : (make_of d memory).refusal ≡ accepted) (xs : List StepAnswer) (m : Machine)
    (t : Took (make_of d memory).machine xs m) where
  pub took_agrees : Agreed d memory xs m
  took_agrees =
      let o = made_of d memory ok in
      let F = fresh_fit d memory o.dims o.long values in
      let r = took_reaches d (fresh d memory) o.machine F t in
      let h = subst (Known (events xs) r.state) (fun_ext (fresh_memory d memory o.dims o.long values))
      (history_serial d.processors (fresh_bare d memory o.dims o.long values) r.history) in
      let A = coherent→agree d.processors h.3 (seen_coarse r.fit) in
      subst⁻¹ (Agreed d memory xs) r.is
      (record {
        serial = h.0;
        opaque_reads = h.1;
        dims = refl;
        sound = fit_sound r.fit h.3 o.dims;
        values = r.fit.frame.memory.small;
        settled_value = λ w. settled_in_lem r.fit A w ∙ h.2 w;
      })
    where
      -- what the theory says of the start memory M
      Known : List Event → Caches → (ℕ → ℕ) → Type 0
      Known es s M =
          Serial es (unlogged M) × Opaque es (unlogged M) × ((w : ℕ) → settled d.processors (seen d s) w ≡ (after_events es (unlogged M)).val w)
          × Coherent d.processors (seen d s)

  -- Every LOAD is answered by the plain memory at its place, the reads of every transaction that commits replay on it whole at the commit, and
  -- at the end each word's settled value is the plain memory's.
  pub demand_3 : Serial (events xs) (start memory)
      × ((w : ℕ) → w < d.words → settled_of m w ≡ Value ((after_events (events xs) (start memory)).val w))
  unfolding settled_of
  demand_3 = (a.serial, value)
    where
      a : Agreed d memory xs m
      a = took_agrees

      value : (w : ℕ) → w < d.words → settled_of m w ≡ Value ((after_events (events xs) (start memory)).val w)
      value w l =
          let l' : w < m.dims.words = subst⁻¹ (λ (z : Dims). w < z.words) a.dims l in
          rw (sound_true m.dims (caches_of m) a.sound, lt-ltb w m.dims.words l') (ap Value (a.settled_value w))

  -- Every VALUE that a transaction was answered, also one that later aborts or never ends, is, with its own earlier writes, the plain memory's
  -- at that step.
  pub opacity : Opaque (events xs) (start memory)
  opacity = took_agrees.opaque_reads

  pub took_sound : Sound m.dims (caches_of m)
  took_sound = took_agrees.sound
