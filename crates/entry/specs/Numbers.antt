-- The numbers of document 01, under its names.
use Rattle.std.specs.Prelude.{ℕ}

-- "Line states are INVALID, VALID, RESERVED, DIRTY (Figure 2)", ascending. INVALID is a tag too.
abbrev pub INVALID : ℕ
INVALID = 0

abbrev pub VALID : ℕ
VALID = 1

abbrev pub RESERVED : ℕ
RESERVED = 2

abbrev pub DIRTY : ℕ
DIRTY = 3

-- "Transactional tags are INVALID, NORMAL, COMMIT, ABORT (Figure 3); an ABORT entry is called tentative, a COMMIT entry its backup."
abbrev pub NORMAL : ℕ
NORMAL = 1

abbrev pub BACKUP : ℕ
BACKUP = 2

abbrev pub TENTATIVE : ℕ
TENTATIVE = 3

-- Steps: "0 LOAD, 1 STORE, 2 LT, 3 LTX, 4 ST, 5 COMMIT, 6 ABORT, 7 VALIDATE, 8 INTERRUPT"
abbrev pub LOAD : ℕ
LOAD = 0

abbrev pub STORE : ℕ
STORE = 1

abbrev pub LT : ℕ
LT = 2

abbrev pub LTX : ℕ
LTX = 3

abbrev pub ST : ℕ
ST = 4

abbrev pub COMMIT : ℕ
COMMIT = 5

abbrev pub ABORT : ℕ
ABORT = 6

abbrev pub VALIDATE : ℕ
VALIDATE = 7

abbrev pub INTERRUPT : ℕ
INTERRUPT = 8

-- Request cycles, in the order of the six counts: "READ, RFO, WRITE, T_READ, T_RFO, BUSY". BUSY is no request.
abbrev pub READ : ℕ
READ = 0

abbrev pub RFO : ℕ
RFO = 1

abbrev pub WRITE : ℕ
WRITE = 2

abbrev pub T_READ : ℕ
T_READ = 3

abbrev pub T_RFO : ℕ
T_RFO = 4
