-- The commas of a record that is split stand before its end, one after the other. Assumes nothing.
use mathlib.Core.Path.{◌≡◌, refl}
use mathlib.Core.Bool.{Bool, true, false}
use mathlib.Core.List.{List}
use Prim.Native.Nat.{ℕ, ◌+◌, ◌-◌, ◌≤◌, ◌<◌}
use native.Mathlib.Omega.{arith}
use lib.Dec.{leb, ltb}
use borrow.Author.Tests.{ltb-true}
use Rattle.laws.specs.Search.{first_range}
use Rattle.entry.specs.Refusals.{unless}
use Rattle.std.specs.Prelude.{Option, Some, None}
use Rattle.text.specs.Records.{Commas, plain_of, split_of}
use Rattle.text.specs.Marks.{COMMA, is_byte, find_of}

pub record Inside (end : ℕ) (cs : Commas) : Type 0 where
  pub a : cs.a < end
  pub b : cs.b < end
  pub c : cs.c < end
  pub d : cs.d < end
  pub ab : cs.a < cs.b
  pub bc : cs.b < cs.c
  pub cd : cs.c < cs.d

pub picked : (t : Bool) (x : Option Commas) (cs : Commas) → unless t None x ≡ Some cs → (t ≡ true) × (x ≡ Some cs)
picked true x cs e = (refl, e)
picked false x cs e = let z : ◌≡◌ {A = ℕ} 0 1 = cc in absurd (omega arith)

pub same_commas : (x y : Commas) → Some x ≡ Some y → x ≡ y
same_commas x y e = cc

pub after : (s : List ℕ) (i end : ℕ) → i ≤ find_of s i end COMMA
unfolding find_of
after s i end = (first_range (is_byte s COMMA) i (end - i)).0

pub inside : (s : List ℕ) (from end : ℕ) (cs : Commas) → split_of s from end ≡ Some cs → Inside end cs
unfolding split_of
inside s from end cs h =
    let a = find_of s from end COMMA in
    let b = find_of s (a + 1) end COMMA in
    let c = find_of s (b + 1) end COMMA in
    let d = find_of s (c + 1) end COMMA in
    let e = find_of s (d + 1) end COMMA in
    let x : Commas = record { a = a; b = b; c = c; d = d } in
    let r5 = unless {A = Option Commas} (leb end e) None (Some x) in
    let r4 = unless (ltb d end) None r5 in
    let r3 = unless (ltb c end) None r4 in
    let r2 = unless (ltb b end) None r3 in
    let r1 = unless (ltb a end) None r2 in
    let h1 = picked (plain_of s from end) r1 cs h in
    let h2 = picked (ltb a end) r2 cs h1.1 in
    let h3 = picked (ltb b end) r3 cs h2.1 in
    let h4 = picked (ltb c end) r4 cs h3.1 in
    let h5 = picked (ltb d end) r5 cs h4.1 in
    let h6 = picked (leb end e) (Some x) cs h5.1 in
    let same = same_commas x cs h6.1 in
    rw (← same)
    (record {
      a = ltb-true a end h2.0;
      b = ltb-true b end h3.0;
      c = ltb-true c end h4.0;
      d = ltb-true d end h5.0;
      ab = omega (arith, after s (a + 1) end);
      bc = omega (arith, after s (b + 1) end);
      cd = omega (arith, after s (c + 1) end);
    })
