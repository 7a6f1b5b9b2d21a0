-- No line is longer than most_line, and where that many bytes are free the puts of a line's parts are one put of the line.
use mathlib.Core.Path.{◌≡◌, refl, ap}
use mathlib.Core.List.{List, [], ◌∷◌, append_assoc}
use Prim.Native.Nat.{ℕ, ◌+◌, ◌≤◌, ◌<◌}
use native.Mathlib.Omega.{arith}
use lib.ListN.{length, length-append}
use Rattle.entry.specs.declared.answer.Answer.{Answer}
use Rattle.entry.specs.declared.answer.Answer.TheVariants.{Value, Done, Success, Failure, True, False, Aborted, Refused}
use Rattle.entry.specs.declared.answer.Answered.{Answered}
use Rattle.entry.specs.Answer.{answer_name, cycles_of}
use Rattle.text.specs.Quoted.{bytes}
use Rattle.text.specs.Writing.{Filled, put_of, decimal}
use Rattle.text.proofs.Puts.{texts, put_all, put_all_lem, decimal_length, width_range}
use Rattle.listing.specs.Lines.{crlf, most_line, name_field, printed, answer_line, end_line}

abbrev lengths : List (List ℕ) → ℕ
lengths [] = 0
lengths (t ∷ ts) = length t + lengths ts

texts_length : (ts : List (List ℕ)) → length (texts ts) ≡ lengths ts
texts_length [] = refl
texts_length (t ∷ ts) = let l = length-append t (texts ts) in omega (arith, l, texts_length ts)

decimal_most : (v : ℕ) → length (decimal v) ≤ 20
decimal_most v = omega (arith, decimal_length v, (width_range v).1)

name_most : (a : Answer) → length (name_field a) ≤ 9
name_most (Value v) = omega arith
name_most Done = omega arith
name_most Success = omega arith
name_most Failure = omega arith
name_most True = omega arith
name_most False = omega arith
name_most Aborted = omega arith
name_most (Refused n) = omega arith

abbrev pub answer_parts : ℕ → Answered → List (List ℕ)
answer_parts n a =
    decimal n ∷ (name_field a.answer ∷ (decimal (printed a.answer) ∷ (bytes "," ∷ (decimal (cycles_of a.counts) ∷ (crlf ∷ [])))))

answer_parts_lem : (n : ℕ) (a : Answered) → texts (answer_parts n a) ≡ answer_line n a
unfolding answer_line
answer_parts_lem n a =
    rw (append_assoc (bytes (answer_name a.answer)) (bytes ",")
    (texts (decimal (printed a.answer) ∷ (bytes "," ∷ (decimal (cycles_of a.counts) ∷ (crlf ∷ []))))))

-- neither empty nor longer than most_line
abbrev pub IsFair : List ℕ → Type 0
IsFair l = (0 < length l) × (length l ≤ most_line)

pub answer_fair : (n : ℕ) (a : Answered) → IsFair (answer_line n a)
answer_fair n a =
    let l = texts_length (answer_parts n a) in
    rw (← answer_parts_lem n a)
    (omega (arith, l, decimal_most n, name_most a.answer, decimal_most (printed a.answer), decimal_most (cycles_of a.counts)))

pub answer_fits : (n : ℕ) (a : Answered) (x : Filled) → x.place + most_line ≤ length x.held →
    put_all (answer_parts n a) x ≡ put_of (answer_line n a) x
answer_fits n a x h =
    rw (← answer_parts_lem n a) (put_all_lem (answer_parts n a) x (let f = (answer_fair n a).1 in omega (arith, f, ap length (answer_parts_lem n a))))

abbrev pub end_parts : ℕ → ℕ → List (List ℕ)
end_parts n k = bytes "END,COMMITTED," ∷ (decimal n ∷ (bytes "," ∷ (decimal k ∷ (crlf ∷ []))))

pub end_fair : (n k : ℕ) → IsFair (end_line n k)
unfolding end_line
end_fair n k = let l = texts_length (end_parts n k) in omega (arith, l, decimal_most n, decimal_most k)

pub end_fits : (n k : ℕ) (x : Filled) → x.place + most_line ≤ length x.held → put_all (end_parts n k) x ≡ put_of (end_line n k) x
unfolding end_line
end_fits n k x h = put_all_lem (end_parts n k) x (omega (arith, (end_fair n k).1))

-- the same for the parts written one after the other
pub answer_written : (n v k : ℕ) (t : List ℕ) (a : Answered) (x x1 x2 x3 x4 x5 x6 : Filled) → x.place + most_line ≤ length x.held →
    x1 ≡ put_of (decimal n) x → t ≡ name_field a.answer → x2 ≡ put_of t x1 → v ≡ printed a.answer → x3 ≡ put_of (decimal v) x2 →
    x4 ≡ put_of (bytes ",") x3 → k ≡ cycles_of a.counts → x5 ≡ put_of (decimal k) x4 → x6 ≡ put_of crlf x5 → x6 ≡ put_of (answer_line n a) x
answer_written n v k t a x x1 x2 x3 x4 x5 x6 h e1 et e2 ev e3 e4 ek e5 e6 =
    rw (e6, e5, ek, e4, e3, ev, e2, et, e1) (answer_fits n a x h)

pub end_written : (n k : ℕ) (x x1 x2 x3 x4 x5 : Filled) → x.place + most_line ≤ length x.held →
    x1 ≡ put_of (bytes "END,COMMITTED,") x → x2 ≡ put_of (decimal n) x1 → x3 ≡ put_of (bytes ",") x2 → x4 ≡ put_of (decimal k) x3 →
    x5 ≡ put_of crlf x4 → x5 ≡ put_of (end_line n k) x
end_written n k x x1 x2 x3 x4 x5 h e1 e2 e3 e4 e5 = rw (e5, e4, e3, e2, e1) (end_fits n k x h)
