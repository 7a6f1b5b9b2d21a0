-- A record is read, and its op is then a step's number, or it is refused by 11 or 6 and no other number. Assumes nothing.
use mathlib.Core.Path.{◌≡◌, refl}
use mathlib.Core.Bool.{Bool, true, false}
use mathlib.Core.List.{List, [], ◌∷◌}
use Prim.Native.Nat.{ℕ, ◌+◌, ◌≤◌}
use native.Mathlib.Omega.{arith}
use borrow.Author.Tests.{ltb-true}
use lib.Dec.{ltb}
use lib.ListN.{length}
use Rattle.laws.specs.Choice.{pick}
use Rattle.entry.specs.Numbers.{INTERRUPT}
use Rattle.entry.specs.Refusals.{malformed, no_such_step}
use Rattle.entry.specs.Step.{among}
use Rattle.std.specs.Prelude.{Option, Some, None, Result, Ok, Err}
use Rattle.text.specs.declared.records.Parsed.{Parsed}
use Rattle.text.specs.Decimals.{field_of}
use Rattle.text.specs.Names.{step_names, first_named, named_step}
use Rattle.text.specs.Records.{Commas, parsed_of, record_in, split_of, record_of}

abbrev pub KnownStep : Option ℕ → Type 0
KnownStep (Some k) = k ≤ INTERRUPT
KnownStep None = Unit

abbrev pub Known : Result Parsed ℕ → Type 0
Known (Ok f) = f.step.op ≤ INTERRUPT
Known (Err n) = among n (malformed ∷ no_such_step ∷ []) ≡ true

pub name_known : (s : List ℕ) (from end : ℕ) → KnownStep (named_step s from end)
unfolding named_step
name_known s from end = by (ltb (first_named s from end) (length step_names)) refl
  where
    by : (b : Bool) → ltb (first_named s from end) (length step_names) ≡ b → KnownStep (pick b (Some (first_named s from end)) None)
    by true e = omega (arith, ltb-true (first_named s from end) (length step_names) e)
    by false e = tt

pub parsed_known : (g c w v op : Option ℕ) → KnownStep op → Known (parsed_of g c w v op)
parsed_known None c w v op h = refl
parsed_known (Some g) None w v op h = refl
parsed_known (Some g) (Some c) None v op h = refl
parsed_known (Some g) (Some c) (Some w) None op h = refl
parsed_known (Some g) (Some c) (Some w) (Some v) None h = refl
parsed_known (Some g) (Some c) (Some w) (Some v) (Some k) h = h

pub record_known : (s : List ℕ) (from end : ℕ) → Known (record_of s from end)
unfolding record_of
record_known s from end = by (split_of s from end)
  where
    by : (x : Option Commas) → Known (record_in s from end x)
    by None = refl
    by (Some cs) =
        parsed_known
        (field_of s from cs.a)
        (field_of s (cs.a + 1) cs.b)
        (field_of s (cs.c + 1) cs.d)
        (field_of s (cs.d + 1) end)
        (named_step s (cs.b + 1) cs.c)
        (name_known s (cs.b + 1) cs.c)
