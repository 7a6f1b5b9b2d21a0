-- Which events a step of document 01 shows, by its number and its answer.
use Rattle.std.specs.Prelude.{List, [], ◌∷◌, ℕ, eqb}
use Rattle.laws.specs.Choice.{pick}
use Rattle.entry.specs.declared.answer.Answer.{Answer}
use Rattle.entry.specs.declared.answer.Answer.TheVariants.{Value, Done, Success, Failure, True, False, Aborted, Refused}
use Rattle.entry.specs.declared.step.Step.{Step}
use Rattle.entry.specs.Numbers.{LOAD, STORE}
use Rattle.entry.specs.Step.{uses_word}
use Rattle.theory.specs.Event.{Event, load, store, tread, twrite, commit, drop}

-- LOAD
abbrev pub by_load : ℕ → ℕ → Answer → List Event
by_load p w (Value x) = load p w x ∷ []
by_load p w Done = []
by_load p w Success = []
by_load p w Failure = []
by_load p w True = []
by_load p w False = []
by_load p w Aborted = []
by_load p w (Refused n) = []

-- STORE
abbrev pub by_store : ℕ → ℕ → ℕ → Answer → List Event
by_store p w v a = store p w v ∷ []

-- LT and LTX read, ST writes; ABORTED ends the transaction for the plain machine
abbrev pub by_access : ℕ → ℕ → ℕ → Answer → List Event
by_access p w v (Value x) = tread p w x ∷ []
by_access p w v Done = twrite p w v ∷ []
by_access p w v Success = []
by_access p w v Failure = []
by_access p w v True = []
by_access p w v False = []
by_access p w v Aborted = drop p ∷ []
by_access p w v (Refused n) = []

-- COMMIT's SUCCESS commits; its FAILURE, a FALSE, ABORT and INTERRUPT drop; a TRUE shows nothing
abbrev pub by_end : ℕ → Answer → List Event
by_end p (Value x) = []
by_end p Done = drop p ∷ []
by_end p Success = commit p ∷ []
by_end p Failure = drop p ∷ []
by_end p True = []
by_end p False = drop p ∷ []
by_end p Aborted = []
by_end p (Refused n) = []

-- the other steps that use a word are LT, LTX and ST
unfoldable pub shows : Step → Answer → List Event
shows x a =
    let p = x.core in
    let w = x.word in
    let v = x.value in
    pick (eqb x.op LOAD) (by_load p w a)
    (pick (eqb x.op STORE) (by_store p w v a)
    (pick (uses_word x.op) (by_access p w v a) (by_end p a)))
