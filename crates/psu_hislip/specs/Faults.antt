-- The codes of FatalError and Error. Source: IVI-6.1.
use Rattle.std.specs.Prelude.{ℕ}
use Rattle.psu_hislip.specs.declared.codes.FatalCode.{FatalCode}
use Rattle.psu_hislip.specs.declared.codes.FatalCode.TheVariants.{PoorlyFormedHeader, ChannelsNotJoined, InvalidInitialization, TooManyClients}
use Rattle.psu_hislip.specs.declared.codes.ErrorCode.{ErrorCode}
use Rattle.psu_hislip.specs.declared.codes.ErrorCode.TheVariants.{Unidentified, UnrecognizedType, UnrecognizedControl, UnrecognizedVendorType, TooLarge}

abbrev pub fatal_code : FatalCode → ℕ
fatal_code PoorlyFormedHeader = 1
fatal_code ChannelsNotJoined = 2
fatal_code InvalidInitialization = 3
fatal_code TooManyClients = 4

abbrev pub error_code : ErrorCode → ℕ
error_code Unidentified = 0
error_code UnrecognizedType = 1
error_code UnrecognizedControl = 2
error_code UnrecognizedVendorType = 3
error_code TooLarge = 4
