-- The lines of the listing. "the listing's lines end in CRLF too"
use Rattle.std.specs.Prelude.{List, [], ◌∷◌, ◌++◌, ℕ}
use Rattle.entry.specs.declared.answer.Answer.{Answer}
use Rattle.entry.specs.declared.answer.Answer.TheVariants.{Value, Done, Success, Failure, True, False, Aborted, Refused}
use Rattle.entry.specs.declared.answer.Answered.{Answered}
use Rattle.entry.specs.Answer.{answer_name, cycles_of}
use Rattle.text.specs.Marks.{CR, LF}
use Rattle.text.specs.Quoted.{bytes}
use Rattle.text.specs.Writing.{decimal}

abbrev pub crlf : List ℕ
crlf = CR ∷ LF ∷ []

-- no line is longer: three numbers of at most 20 digits, a name of at most 7 bytes, three commas and CRLF
abbrev pub most_line : ℕ
most_line = 72

-- "A refusal reads `n,REFUSED,number,0`"; every other answer shows its value
abbrev pub printed : Answer → ℕ
printed (Value v) = v
printed Done = 0
printed Success = 0
printed Failure = 0
printed True = 0
printed False = 0
printed Aborted = 0
printed (Refused n) = n

-- "Fields: record number from 1, answer, value, sum of the six counts."
unfoldable pub answer_line : ℕ → Answered → List ℕ
answer_line n a =
    decimal n ++
    (bytes "," ++
    (bytes (answer_name a.answer) ++ (bytes "," ++ (decimal (printed a.answer) ++ (bytes "," ++ (decimal (cycles_of a.counts) ++ crlf))))))

-- the part of it that is written at once: the answer's name, the commas before and after it
abbrev pub name_field : Answer → List ℕ
name_field a = bytes "," ++ (bytes (answer_name a) ++ bytes ",")

-- "END gives successful commits and all cycles."
unfoldable pub end_line : ℕ → ℕ → List ℕ
end_line commits cycles = bytes "END,COMMITTED," ++ (decimal commits ++ (bytes "," ++ (decimal cycles ++ crlf)))

abbrev pub header_line : List ℕ
header_line = bytes "record,answer,value,bus" ++ crlf
