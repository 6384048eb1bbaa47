-- Headers: which rows of a table the nodes of a header match.
-- Source: SCPI-1999 volume 1, 6.2 (mnemonics, short and long forms, optional nodes, numeric suffixes).
use Rattle.std.specs.Prelude.{◌≡◌, ◌⊎◌, ℕ, ◌-◌, ◌==◌, ◌||◌, ◌&&◌, nat_lt, Bool, true, false, List, [], ◌∷◌, ◌++◌, Option, Some, None, option_and_then, find, if◌then◌else◌}
use Rattle.psu_lex.specs.Bytes.{all_digits}
use Rattle.psu_tree.specs.declared.form.Form.{Form}
use Rattle.psu_tree.specs.declared.rows.Kind.{Kind}
use Rattle.psu_tree.specs.declared.rows.Kind.TheVariants.{Must, Maybe, Numbered, MaybeNumbered}

-- a lowercase letter
abbrev pub is_small : ℕ → Bool
is_small b = nat_lt 96 b && nat_lt b 123

-- a letter as a capital
abbrev pub capital : ℕ → ℕ
capital b = if is_small b then b - 32 else b

-- the same letters, ignoring case
abbrev pub same_letters : List ℕ → List ℕ → Bool
same_letters [] [] = true
same_letters [] (y ∷ ys) = false
same_letters (x ∷ xs) [] = false
same_letters (x ∷ xs) (y ∷ ys) = capital x == capital y && same_letters xs ys

-- the short form of a mnemonic: the letters before its first lowercase letter
abbrev pub short : List ℕ → List ℕ
short [] = []
short (x ∷ xs) = if is_small x then [] else x ∷ short xs

-- the word is the short or the long form
abbrev pub is_form : List ℕ → List ℕ → Bool
is_form name word = same_letters (short name) word || same_letters name word

-- a word without the digits at its end
abbrev pub stem : List ℕ → List ℕ
stem [] = []
stem (x ∷ xs) = if all_digits (x ∷ xs) then [] else x ∷ stem xs

abbrev pub is_numbered : Kind → Bool
is_numbered Must = false
is_numbered Maybe = false
is_numbered Numbered = true
is_numbered MaybeNumbered = true

-- the node is optional
abbrev pub in_brackets : Kind → Bool
in_brackets Must = false
in_brackets Maybe = true
in_brackets Numbered = false
in_brackets MaybeNumbered = true

-- a node of a row
pub record Mnemonic : Type 0 where
  pub name : List ℕ
  pub kind : Kind

-- a word is a form of the node, with a numeric suffix only where there is `<n>`
abbrev pub names : Mnemonic → List ℕ → Bool
names node word = is_form node.name (if is_numbered node.kind then stem word else word)

-- some optional nodes can be left out so that each remaining node has the word in its place as a form
abbrev pub Matches : List Mnemonic → List (List ℕ) → Type 0
Matches [] [] = Unit {0}
Matches [] (word ∷ words) = ⊥
Matches (node ∷ nodes) [] = (in_brackets node.kind ≡ true) × Matches nodes []
Matches (node ∷ nodes) (word ∷ words) =
    ((names node word ≡ true) × Matches nodes words) ⊎ ((in_brackets node.kind ≡ true) × Matches nodes (word ∷ words))

-- `Matches` as a test
abbrev pub fits : List Mnemonic → List (List ℕ) → Bool
fits [] [] = true
fits [] (word ∷ words) = false
fits (node ∷ nodes) [] = in_brackets node.kind && fits nodes []
fits (node ∷ nodes) (word ∷ words) =
    (names node word && fits nodes words) || (in_brackets node.kind && fits nodes (word ∷ words))

-- whether a command changes nonvolatile memory: never, always, or while the power-on status clear flag is false
pub data Keeping : Type 0 where
  Never : Keeping
  Always : Keeping
  WhileFalse : Keeping

-- a row of the table: its nodes, its forms without and with a `?`, and whether its command changes nonvolatile memory
pub record Entry : Type 0 where
  pub nodes : List Mnemonic
  pub command : Option Form
  pub query : Option Form
  pub keeping : Keeping

abbrev pub form_of : Bool → Entry → Option Form
form_of asks entry = if asks then entry.query else entry.command

-- the form of the first row that the words match
abbrev pub form_for : List Entry → List (List ℕ) → Bool → Option Form
form_for table words asks = option_and_then (form_of asks) (find (λ entry. fits entry.nodes words) table)

-- ---- the standard's notation

abbrev pub kind_of : Bool → Bool → Kind
kind_of brackets numbered =
    if brackets then (if numbered then MaybeNumbered else Maybe) else (if numbered then Numbered else Must)

-- the node that ends here, if one has begun
abbrev pub ended : List ℕ → Bool → Bool → List Mnemonic
ended [] brackets numbered = []
ended (x ∷ xs) brackets numbered = record { name = x ∷ xs; kind = kind_of brackets numbered } ∷ []

-- the meaning of a byte of the notation
pub data Symbol : Type 0 where
  Star : Symbol
  Opening : Symbol
  Closing : Symbol
  Colon : Symbol
  Angle : Symbol
  Letter : Symbol

abbrev pub symbol_of : ℕ → Symbol
symbol_of b =
    if b == 42 then Star else (if b == 91 then Opening else (if b == 93 then Closing else (if b == 58 then Colon
    else (if b == 60 || b == 62 then Angle else Letter))))

-- the nodes of a header in the standard's notation, after the letters of one that has begun
abbrev pub nodes_from : List ℕ → Bool → Bool → List ℕ → List Mnemonic
nodes_from name brackets numbered [] = ended name brackets numbered
nodes_from name brackets numbered (x ∷ xs) = elim (symbol_of x) as (λ _. List Mnemonic) [
  | Star ↦ record { name = 42 ∷ []; kind = Must } ∷ nodes_from [] false false xs
  | Opening ↦ ended name brackets numbered ++ nodes_from [] true false xs
  | Closing ↦ ended name brackets numbered ++ nodes_from [] false false xs
  | Colon ↦ ended name brackets numbered ++ nodes_from [] brackets false xs
  | Angle ↦ nodes_from name brackets true xs
  | Letter ↦ nodes_from (elim numbered as (λ _. List ℕ) [ true ↦ name | false ↦ name ++ x ∷ [] ]) brackets numbered xs
]

-- `<n>` denotes a numeric suffix, brackets denote optional nodes
abbrev pub nodes_of : List ℕ → List Mnemonic
nodes_of text = nodes_from [] false false text

-- a header that is a command, a query, or both
abbrev pub both : List ℕ → Form → Form → Entry
both text command query = record { nodes = nodes_of text; command = Some command; query = Some query; keeping = Never }

abbrev pub only : List ℕ → Form → Entry
only text command = record { nodes = nodes_of text; command = Some command; query = None; keeping = Never }

abbrev pub asks : List ℕ → Form → Entry
asks text query = record { nodes = nodes_of text; command = None; query = Some query; keeping = Never }

-- a row whose command changes nonvolatile memory
abbrev pub kept : Entry → Entry
kept entry = record entry { keeping = Always }

abbrev pub kept_while_false : Entry → Entry
kept_while_false entry = record entry { keeping = WhileFalse }
