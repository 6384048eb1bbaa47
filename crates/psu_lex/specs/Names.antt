-- Valid macro labels and file names. (The rules are this project's own.)
use Rattle.std.specs.Prelude.{ℕ, ◌&&◌, ◌||◌, ◌==◌, nat_le, Bool, false, List, [], ◌∷◌, length}
use Rattle.std.specs.List.{list_all}
use Rattle.psu_lex.specs.Bytes.{is_letter}
use Rattle.psu_lex.specs.Syntax.{is_name_byte}

abbrev pub begins_with_letter : List ℕ → Bool
begins_with_letter [] = false
begins_with_letter (byte ∷ bytes) = is_letter byte

-- a label: a letter followed by letters, digits or `_`, 1 to 12 bytes
abbrev pub is_label : List ℕ → Bool
is_label bytes = begins_with_letter bytes && (list_all is_name_byte bytes && nat_le (length bytes) 12)

-- a letter, a digit, `_`, `-` or `.`
abbrev pub is_file_byte : ℕ → Bool
is_file_byte byte = is_name_byte byte || (byte == 45 || byte == 46)

-- a file name: 1 to 64 of these
abbrev pub is_name : List ℕ → Bool
is_name bytes = list_all is_file_byte bytes && (nat_le 1 (length bytes) && nat_le (length bytes) 64)
