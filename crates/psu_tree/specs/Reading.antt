-- The command of a unit, or its first error; and the macro call that it may be. Sources: SCPI-1999 volume 1, 6.2
-- (headers); volume 2, chapter 21 (the errors); IEEE 488.2, 7.6, 7.7, 10.8.
use Rattle.std.specs.Prelude.{◌≡◌, ℕ, ◌==◌, Bool, true, false, List, [], ◌∷◌, length, drop, Option, Some, None, Result, Ok, Err, is_ok, if◌then◌else◌}
use Rattle.psu_lex.specs.Bytes.{value_after}
use Rattle.psu_lex.specs.Message.{Part}
use Rattle.psu_lex.specs.Names.{is_label}
use Rattle.psu_lex.specs.Shown.{HoldsData}
use Rattle.psu_lex.specs.Syntax.{Datum, Syntax, SyntaxGives, HeaderParts, IsHeader, header_text}
use Rattle.psu_lex.specs.declared.scpi_error.ScpiError.{ScpiError}
use Rattle.psu_lex.specs.declared.scpi_error.ScpiError.TheVariants.{UndefinedHeader, HeaderSuffixOutOfRange}
use Rattle.psu_tree.specs.Commands.{CommandReads}
use Rattle.psu_tree.specs.Headers.{form_for, stem}
use Rattle.psu_tree.specs.Path.{words_of, path_after}
use Rattle.psu_tree.specs.Table.{table}
use Rattle.psu_tree.specs.declared.command.Command.{Command}
use Rattle.psu_tree.specs.declared.form.Form.{Form}
use Rattle.psu_tree.specs.declared.command.MacroCall as rust_call
use Rattle.psu_settings.specs.declared.output.Output.{Output}
use Rattle.psu_settings.specs.declared.output.Output.TheVariants.{First, Second, Third, Fourth}

-- ---- numeric suffixes

-- the digits at the end of a node
abbrev pub digits_of : List ℕ → List ℕ
digits_of word = drop (length (stem word)) word

-- the digits of the first node that has some
abbrev pub suffix_of : List (List ℕ) → List ℕ
suffix_of [] = []
suffix_of (word ∷ words) = elim (digits_of word) as (λ _. List ℕ) [ [] ↦ suffix_of words | (d ∷ ds) ↦ d ∷ ds ]

abbrev pub output_at : ℕ → Result Output ScpiError
output_at n =
    if n == 1 then Ok First else (if n == 2 then Ok Second else (if n == 3 then Ok Third else (if n == 4 then Ok Fourth else Err HeaderSuffixOutOfRange)))

-- a missing suffix means 1
abbrev pub output_of : List ℕ → Result Output ScpiError
output_of [] = Ok First
output_of (d ∷ ds) = output_at (value_after 0 (d ∷ ds))

-- ---- headers

-- a form and its output, or the error of the header: -113 takes precedence over -114
abbrev pub placed : Option Form → Result Output ScpiError → Result (Form × Output) ScpiError
placed None output = Err UndefinedHeader
placed (Some form) (Err fault) = Err fault
placed (Some form) (Ok output) = Ok (form, output)

-- the form in the table of a header with these nodes, and its output
abbrev pub header_reads : List (List ℕ) → Bool → Result (Form × Output) ScpiError
header_reads words asks = placed (form_for table words asks) (output_of (suffix_of words))

-- ---- units

abbrev pub FormReads : Result (Form × Output) ScpiError → List Datum → Result Command ScpiError → Type 0
FormReads (Err e) list reading = reading ≡ Err e
FormReads (Ok placed) list reading = CommandReads placed.0 placed.1 list reading

abbrev pub SyntaxReads : List (List ℕ) → Result Syntax ScpiError → Result Command ScpiError → Type 0
SyntaxReads path (Err e) reading = reading ≡ Err e
SyntaxReads path (Ok syntax) reading =
    (h : HeaderParts) × IsHeader h × (syntax.header ≡ header_text h) × FormReads (header_reads (words_of path h) h.asks) syntax.parameters reading

-- the result of a unit at the path
abbrev pub Reads : List (List ℕ) → Part → Result Command ScpiError → Type 0
Reads path unit reading = (given : Result Syntax ScpiError) × SyntaxGives unit given × SyntaxReads path given reading

-- ---- the path after a unit

abbrev pub SyntaxMoves : List (List ℕ) → Result Syntax ScpiError → Result Command ScpiError → List (List ℕ) → Type 0
SyntaxMoves path (Err e) reading next = next ≡ path
SyntaxMoves path (Ok syntax) reading next =
    (h : HeaderParts) × IsHeader h × (syntax.header ≡ header_text h) × (next ≡ path_after (is_ok reading) path h)

-- the path after a unit with this result
abbrev pub Moves : List (List ℕ) → Part → Result Command ScpiError → List (List ℕ) → Type 0
Moves path unit reading next = (given : Result Syntax ScpiError) × SyntaxGives unit given × SyntaxMoves path given reading next

-- ---- calls of macros

-- a header of the form of a label, with its data
abbrev pub SyntaxCalls : Result Syntax ScpiError → Option rust_call.MacroCall → Type 0
SyntaxCalls (Err e) call = call ≡ None
SyntaxCalls (Ok syntax) None = is_label syntax.header ≡ false
SyntaxCalls (Ok syntax) (Some call) = (is_label syntax.header ≡ true) × (call.label.now ≡ syntax.header) × HoldsData call.args syntax.parameters

-- the macro call that a unit may be: its syntax alone determines this, whatever its result
abbrev pub CallsMacro : Part → Option rust_call.MacroCall → Type 0
CallsMacro unit call = (given : Result Syntax ScpiError) × SyntaxGives unit given × SyntaxCalls given call
