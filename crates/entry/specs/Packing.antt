-- One copy of a word as one number: data in bits 0 to 31, word in 32 to 39, tag in 40 and 41, state in 42 and 43. An invalid copy is 0.
-- No other definition names a bit. Division is nested, as the laws need it.
use Rattle.std.specs.Prelude.{◌≡◌, refl, ℕ, ◌+◌, ◌*◌, ◌/◌, ◌%◌, ◌<◌}
use Rattle.std.proofs.Common.{ap, arith}
use Rattle.entry.specs.declared.Entry.{Entry}

abbrev pub entry : ℕ → ℕ → ℕ → ℕ → Entry
entry s t w v = record { state = s; tag = t; word = w; «data» = v }

-- "An invalid entry has zero in every field."
abbrev pub no_entry : Entry
no_entry = entry 0 0 0 0

abbrev pub pack : Entry → ℕ
pack e = e.«data» + 4294967296 * (e.word + 256 * (e.tag + 4 * e.state))

abbrev pub unpack : ℕ → Entry
unpack x = entry (x / 4294967296 / 256 / 4 % 4) (x / 4294967296 / 256 % 4) (x / 4294967296 % 256) (x % 4294967296)

-- the least number that no copy packs to
abbrev pub packed_end : ℕ
packed_end = 17592186044416

pub record InRange (e : Entry) : Type 0 where
  pub state : e.state < 4
  pub tag : e.tag < 4
  pub word : e.word < 256
  pub «data» : e.«data» < 4294967296

pub same_entry : (e f : Entry) → e.state ≡ f.state → e.tag ≡ f.tag → e.word ≡ f.word → e.«data» ≡ f.«data» → e ≡ f
same_entry e f a b c d = rw (a, b, c, d)

pub unpack_range : (x : ℕ) → InRange (unpack x)
unpack_range x = record { state = omega arith; tag = omega arith; word = omega arith; «data» = omega arith }

pub pack_range : (e : Entry) → InRange e → pack e < packed_end
pack_range e h = omega arith

pub unpack_pack : (e : Entry) → InRange e → unpack (pack e) ≡ e
unpack_pack e h = same_entry (unpack (pack e)) e (omega arith) (omega arith) (omega arith) (omega arith)

-- exactly the canonical numbers come back
pub pack_unpack : (x : ℕ) → x < packed_end → pack (unpack x) ≡ x
pack_unpack x h = omega arith

pub pack_unpack_only : (x : ℕ) → pack (unpack x) ≡ x → x < packed_end
pack_unpack_only x h = omega arith

-- invalid is 0
pub pack_none : pack no_entry ≡ 0
pack_none = refl

pub pack_zero : (e : Entry) → pack e ≡ 0 → e ≡ no_entry
pack_zero e h = same_entry e no_entry (omega arith) (omega arith) (omega arith) (omega arith)

pub unpack_zero : (x : ℕ) → x < packed_end → unpack x ≡ no_entry → x ≡ 0
unpack_zero x h e =
    omega (
      arith,
      ap (λ (y : Entry). y.state) e,
      ap (λ (y : Entry). y.tag) e,
      ap (λ (y : Entry). y.word) e,
      ap (λ (y : Entry). y.«data») e,
    )

-- tag and word as one number, which a search compares once
pub key_both : (x t w : ℕ) → w < 256 → x / 4294967296 % 1024 ≡ t * 256 + w → ((unpack x).tag ≡ t) × ((unpack x).word ≡ w)
key_both x t w h e = (omega arith, omega arith)

pub key_of : (x t w : ℕ) → (unpack x).tag ≡ t → (unpack x).word ≡ w → x / 4294967296 % 1024 ≡ t * 256 + w
key_of x t w a b = omega arith

-- an odd tag, NORMAL or tentative, and the word
pub live_both : (x w : ℕ) → w < 256 → x / 4294967296 % 512 ≡ 256 + w → ((unpack x).tag % 2 ≡ 1) × ((unpack x).word ≡ w)
live_both x w h e = (omega arith, omega arith)

pub live_of : (x w : ℕ) → (unpack x).tag % 2 ≡ 1 → (unpack x).word ≡ w → x / 4294967296 % 512 ≡ 256 + w
live_of x w a b = omega arith
