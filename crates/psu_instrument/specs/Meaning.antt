-- The meaning of a command in the situation where it is executed.
use Rattle.std.specs.Prelude.{◌≡◌, ◌⊎◌, ℕ, Bool, Option, Some, None, unwrap_or, Result, Ok, Err, List, [], decimal, pos}
use Rattle.psu_lex.specs.ByteStorage.{NeedsAllocation}
use Rattle.psu_lex.specs.Decimals.{fixed3_text}
use Rattle.psu_lex.specs.declared.scpi_error.ScpiError.{ScpiError}
use Rattle.psu_lex.specs.declared.scpi_error.ScpiError.TheVariants.{OutOfMemory}
use Rattle.psu_nv.specs.Commands as nv
use Rattle.psu_nv.specs.Contents.{Contents}
use Rattle.psu_nv.specs.Views.{command_of}
use Rattle.psu_instrument.specs.Instrument.{Instrument}
use Rattle.psu_instrument.specs.declared.act.Act.{Act}
use Rattle.psu_instrument.specs.declared.act.Act.TheVariants as act
use Rattle.psu_instrument.specs.declared.act.Completion.{Completion}

-- the situation of a command: the limit, the nonvolatile contents, the instrument, and whether the session has a
-- response that it has not read
pub record Situation : Type 0 where
  pub limit : ℕ
  pub contents : Contents
  pub instrument : Instrument
  pub available : Bool

abbrev pub situation : ℕ → Contents → Instrument → Bool → Situation
situation limit contents instrument available = record { limit = limit; contents = contents; instrument = instrument; available = available }

-- A command is refused; or the instrument executes it, with or without a response, and has this new state; or it
-- changes the nonvolatile contents; or it waits for the changes before it.
pub data Meaning : Type 0 where
  Refuses : (error : ScpiError) → Meaning
  Does : (answer : Option (List ℕ)) → (new : Instrument) → Meaning
  Keeps : (change : nv.Command) → Meaning
  Completes : (completion : Completion) → Meaning

-- a response, and no change
abbrev pub answers : Situation → List ℕ → Meaning
answers s text = Does (Some text) s.instrument

abbrev pub says : Situation → ℕ → Meaning
says s n = answers s (decimal n)

-- thousandths with three decimals
abbrev pub says_fixed : Situation → ℕ → Meaning
says_fixed s n = answers s (fixed3_text (pos n))

-- done without a response
abbrev pub leaves : Instrument → Meaning
leaves i = Does None i

-- a label or a name; an invalid one is the empty text, which is not a valid label or name
abbrev pub text_of : Option (List ℕ) → List ℕ
text_of text = unwrap_or text []

-- The result of a command that has this meaning: an allocation failure replaces only a response that needs an allocation,
-- and leaves everything unchanged.
abbrev pub ActsAs : {A : Type 0} → Meaning → Instrument → Result (Act A) ScpiError → Instrument → Type 0
ActsAs (Refuses error) old result new = (result ≡ Err error) × (new ≡ old)
ActsAs (Does None after) old result new = (result ≡ Ok act.Done) × (new ≡ after)
ActsAs (Does (Some text) after) old result new = ((result ≡ Ok (act.Answer text)) × (new ≡ after)) ⊎ ((result ≡ Err OutOfMemory) × (new ≡ old) × NeedsAllocation text)
ActsAs (Keeps change) old (Ok (act.Keep command)) new = (command_of command ≡ change) × (new ≡ old)
ActsAs (Keeps change) old result new = ⊥
ActsAs (Completes completion) old result new = (result ≡ Ok (act.Complete completion)) × (new ≡ old)
