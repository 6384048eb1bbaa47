-- The first message of a connection. Source: IVI-6.1.
use Rattle.std.specs.Prelude.{◌==◌, if◌then◌else◌}
use Rattle.psu_hislip.specs.Stream.{Received}
use Rattle.psu_hislip.specs.Stream.Received.{Frame, Oversize, BadHeader}
use Rattle.psu_hislip.specs.MessageType.{code_of}
use Rattle.psu_hislip.specs.declared.message_type.MessageType.TheVariants.{Initialize, AsyncInitialize}
use Rattle.psu_hislip.specs.declared.codes.FatalCode.TheVariants.{PoorlyFormedHeader, InvalidInitialization}
use Rattle.psu_hislip.specs.declared.first.First.{First}
use Rattle.psu_hislip.specs.declared.first.First.TheVariants.{Start, Join, Refused}

-- Initialize begins a session, AsyncInitialize joins one, and anything else is refused
abbrev pub first_of : Received → First
first_of BadHeader = Refused PoorlyFormedHeader
first_of (Oversize h) = Refused InvalidInitialization
first_of (Frame h payload) =
    if h.kind == code_of Initialize then Start
    else (if h.kind == code_of AsyncInitialize then Join h.parameter else Refused InvalidInitialization)
