-- The errors: number, text, class and event status bit. Sources: SCPI-1999 volume 2, chapter 21; IEEE 488.2, 11.5.1.
use Rattle.std.specs.Prelude.{ℕ, List, codes, nat_lt, if◌then◌else◌}
use Rattle.psu_lex.specs.declared.scpi_error.ErrorClass.{ErrorClass}
use Rattle.psu_lex.specs.declared.scpi_error.ErrorClass.TheVariants.{Command, Execution, Device}
use Rattle.psu_lex.specs.declared.scpi_error.ScpiError.{ScpiError}
use Rattle.psu_lex.specs.declared.scpi_error.ScpiError.TheVariants.{InvalidCharacter, SyntaxError, DataTypeError, ParameterNotAllowed, MissingParameter, UndefinedHeader, HeaderSuffixOutOfRange, ExponentTooLarge, TooManyDigits, InvalidSuffix, InvalidStringData, InvalidBlockData, CommandProtected, TriggerIgnored, SettingsConflict, DataOutOfRange, TooMuchData, IllegalParameterValue, OutOfMemory, MassStorageError, MediaFull, FileNameNotFound, FileNameError, IllegalMacroLabel, MacroParameterError, MacroDefinitionTooLong, MacroRecursionError, MacroRedefinitionNotAllowed, MacroHeaderNotFound, StorageFault, QueueOverflow}

-- the number without its sign
abbrev pub magnitude : ScpiError → ℕ
magnitude InvalidCharacter = 101
magnitude SyntaxError = 102
magnitude DataTypeError = 104
magnitude ParameterNotAllowed = 108
magnitude MissingParameter = 109
magnitude UndefinedHeader = 113
magnitude HeaderSuffixOutOfRange = 114
magnitude ExponentTooLarge = 123
magnitude TooManyDigits = 124
magnitude InvalidSuffix = 131
magnitude InvalidStringData = 151
magnitude InvalidBlockData = 161
magnitude CommandProtected = 203
magnitude TriggerIgnored = 211
magnitude SettingsConflict = 221
magnitude DataOutOfRange = 222
magnitude TooMuchData = 223
magnitude IllegalParameterValue = 224
magnitude OutOfMemory = 225
magnitude MassStorageError = 250
magnitude MediaFull = 254
magnitude FileNameNotFound = 256
magnitude FileNameError = 257
magnitude IllegalMacroLabel = 273
magnitude MacroParameterError = 274
magnitude MacroDefinitionTooLong = 275
magnitude MacroRecursionError = 276
magnitude MacroRedefinitionNotAllowed = 277
magnitude MacroHeaderNotFound = 278
magnitude StorageFault = 320
magnitude QueueOverflow = 350

abbrev pub text : ScpiError → List ℕ
text InvalidCharacter = codes "Invalid character"
text SyntaxError = codes "Syntax error"
text DataTypeError = codes "Data type error"
text ParameterNotAllowed = codes "Parameter not allowed"
text MissingParameter = codes "Missing parameter"
text UndefinedHeader = codes "Undefined header"
text HeaderSuffixOutOfRange = codes "Header suffix out of range"
text ExponentTooLarge = codes "Exponent too large"
text TooManyDigits = codes "Too many digits"
text InvalidSuffix = codes "Invalid suffix"
text InvalidStringData = codes "Invalid string data"
text InvalidBlockData = codes "Invalid block data"
text CommandProtected = codes "Command protected"
text TriggerIgnored = codes "Trigger ignored"
text SettingsConflict = codes "Settings conflict"
text DataOutOfRange = codes "Data out of range"
text TooMuchData = codes "Too much data"
text IllegalParameterValue = codes "Illegal parameter value"
text OutOfMemory = codes "Out of memory"
text MassStorageError = codes "Mass storage error"
text MediaFull = codes "Media full"
text FileNameNotFound = codes "File name not found"
text FileNameError = codes "File name error"
text IllegalMacroLabel = codes "Illegal macro label"
text MacroParameterError = codes "Macro parameter error"
text MacroDefinitionTooLong = codes "Macro definition too long"
text MacroRecursionError = codes "Macro recursion error"
text MacroRedefinitionNotAllowed = codes "Macro redefinition not allowed"
text MacroHeaderNotFound = codes "Macro header not found"
text StorageFault = codes "Storage fault"
text QueueOverflow = codes "Queue overflow"

-- -1xx are command errors, -2xx execution errors, -3xx device-specific errors
abbrev pub class_of : ScpiError → ErrorClass
class_of e = if nat_lt (magnitude e) 200 then Command else (if nat_lt (magnitude e) 300 then Execution else Device)

-- CME is bit 5, EXE bit 4, DDE bit 3
abbrev pub class_bit : ErrorClass → ℕ
class_bit Command = 32
class_bit Execution = 16
class_bit Device = 8

abbrev pub event_bit : ScpiError → ℕ
event_bit e = class_bit (class_of e)
