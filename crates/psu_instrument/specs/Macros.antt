-- Macros. Source: IEEE 488.2, 10.8 (`*DMC`) and the commands related to it.
use Rattle.std.specs.Prelude.{◌≡◌, ◌⊎◌, ℕ, Bool, true, false, if◌then◌else◌, Option, Some, None, Result, Ok, Err, List, [], ◌∷◌, ◌++◌, map}
use Rattle.psu_lex.specs.Data.{definite_text}
use Rattle.psu_lex.specs.Macros.{ExpandsTo}
use Rattle.psu_lex.specs.Shown.{HoldsData}
use Rattle.psu_lex.specs.Syntax.{Datum}
use Rattle.psu_lex.specs.declared.scpi_error.ScpiError.{ScpiError}
use Rattle.psu_lex.specs.declared.scpi_error.ScpiError.TheVariants.{MacroHeaderNotFound, MacroRecursionError, OutOfMemory}
use Rattle.psu_nv.specs.Commands.{DefineMacro, RemoveMacro, PurgeMacros}
use Rattle.psu_nv.specs.Contents.{Macro, body_at}
use Rattle.psu_tree.specs.declared.command.MacroCall.{MacroCall}
use Rattle.psu_tree.specs.declared.values.OnMacro.{OnMacro}
use Rattle.psu_tree.specs.declared.values.OnMacro.TheVariants as on_macro
use Rattle.psu_instrument.specs.Instrument.{Instrument}
use Rattle.psu_instrument.specs.Meaning.{Situation, Meaning, Refuses, Keeps, answers, text_of}

-- `*DMC`
abbrev pub defined : Situation → Option (List ℕ) → List ℕ → Meaning
defined s label body = Keeps (DefineMacro (text_of label) body)

-- a macro's body as response data; an undefined macro has none
abbrev pub body_queried : Situation → Option (List ℕ) → Meaning
body_queried s None = Refuses MacroHeaderNotFound
body_queried s (Some body) = answers s (definite_text body)

-- `*GMC?`, `*RMC`
abbrev pub on_label : Situation → OnMacro → Option (List ℕ) → Meaning
on_label s on_macro.Ask label = body_queried s (body_at s.contents.macros (text_of label))
on_label s on_macro.Remove label = Keeps (RemoveMacro (text_of label))

-- `*PMC`
abbrev pub purged : Situation → Meaning
purged s = Keeps PurgeMacros

abbrev pub quoted : List ℕ → List ℕ
quoted text = 34 ∷ (text ++ 34 ∷ [])

-- labels that follow a first one
abbrev pub more_labels : List (List ℕ) → List ℕ
more_labels [] = []
more_labels (label ∷ labels) = 44 ∷ (quoted label ++ more_labels labels)

-- labels as response data, in order of definition; `""` where there is none
abbrev pub labels_text : List (List ℕ) → List ℕ
labels_text [] = quoted []
labels_text (label ∷ labels) = quoted label ++ more_labels labels

-- `*LMC?`
abbrev pub labels_asked : Situation → Meaning
labels_asked s = answers s (labels_text (map (λ (m : Macro). m.label) s.contents.macros))

-- ---- calls

-- the label that a unit may call
abbrev pub label_in : Option MacroCall → Option (List ℕ)
label_in None = None
label_in (Some call) = Some call.label.now

-- the data of that call
abbrev pub HoldsParameters : Option MacroCall → List Datum → Type 0
HoldsParameters None list = list ≡ []
HoldsParameters (Some call) list = HoldsData call.args list

-- parameters as written
abbrev pub written : List Datum → List (List ℕ)
written list = map (λ (d : Datum). d.text) list

-- the body that is called: macros are enabled, and the label is defined, ignoring case
abbrev pub body_called : Instrument → List Macro → Option (List ℕ) → Option (List ℕ)
body_called i macros None = None
body_called i macros (Some label) = if i.expands then body_at macros label else None

-- A body expands with these parameters, or gives an error instead; inside an expansion no macro is expanded.
abbrev pub ExpandsAt : Bool → List ℕ → List (List ℕ) → Result (List ℕ) ScpiError → Type 0
ExpandsAt true body parameters outcome = outcome ≡ Err MacroRecursionError
ExpandsAt false body parameters outcome = ExpandsTo body parameters outcome

-- the result of a call: an allocation failure can replace only an expansion
abbrev pub CallGives : Bool → List ℕ → List (List ℕ) → Result (List ℕ) ScpiError → Type 0
CallGives inside body parameters (Ok text) = ExpandsAt inside body parameters (Ok text)
CallGives inside body parameters (Err error) = ((error ≡ OutOfMemory) × (text : List ℕ) × ExpandsAt inside body parameters (Ok text)) ⊎ ExpandsAt inside body parameters (Err error)

-- the result of a unit with the body that it calls; none where it calls no macro
abbrev pub UnitGives : Option (List ℕ) → Bool → List (List ℕ) → Option (Result (List ℕ) ScpiError) → Type 0
UnitGives None inside parameters given = given ≡ None
UnitGives (Some body) inside parameters None = ⊥
UnitGives (Some body) inside parameters (Some given) = CallGives inside body parameters given
