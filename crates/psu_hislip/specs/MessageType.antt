-- The types of messages and their codes. Source: IVI-6.1.
use Rattle.std.specs.Prelude.{ℕ, List, [], ◌∷◌, Option, slice_get}
use Rattle.psu_hislip.specs.declared.message_type.MessageType.{MessageType}
use Rattle.psu_hislip.specs.declared.message_type.MessageType.TheVariants.{Initialize, InitializeResponse, FatalError, Error, AsyncLock, AsyncLockResponse, Data, DataEnd, DeviceClearComplete, DeviceClearAcknowledge, AsyncRemoteLocalControl, AsyncRemoteLocalResponse, Trigger, Interrupted, AsyncInterrupted, AsyncMaximumMessageSize, AsyncMaximumMessageSizeResponse, AsyncInitialize, AsyncInitializeResponse, AsyncDeviceClear, AsyncServiceRequest, AsyncStatusQuery, AsyncStatusResponse, AsyncDeviceClearAcknowledge, AsyncLockInfo, AsyncLockInfoResponse}

abbrev pub code_of : MessageType → ℕ
code_of Initialize = 0
code_of InitializeResponse = 1
code_of FatalError = 2
code_of Error = 3
code_of AsyncLock = 4
code_of AsyncLockResponse = 5
code_of Data = 6
code_of DataEnd = 7
code_of DeviceClearComplete = 8
code_of DeviceClearAcknowledge = 9
code_of AsyncRemoteLocalControl = 10
code_of AsyncRemoteLocalResponse = 11
code_of Trigger = 12
code_of Interrupted = 13
code_of AsyncInterrupted = 14
code_of AsyncMaximumMessageSize = 15
code_of AsyncMaximumMessageSizeResponse = 16
code_of AsyncInitialize = 17
code_of AsyncInitializeResponse = 18
code_of AsyncDeviceClear = 19
code_of AsyncServiceRequest = 20
code_of AsyncStatusQuery = 21
code_of AsyncStatusResponse = 22
code_of AsyncDeviceClearAcknowledge = 23
code_of AsyncLockInfo = 24
code_of AsyncLockInfoResponse = 25

-- the types in the order of their codes
abbrev pub types : List MessageType
types =
    Initialize ∷ InitializeResponse ∷ FatalError ∷ Error ∷ AsyncLock ∷ AsyncLockResponse ∷ Data ∷ DataEnd ∷ DeviceClearComplete
    ∷ DeviceClearAcknowledge ∷ AsyncRemoteLocalControl ∷ AsyncRemoteLocalResponse ∷ Trigger ∷ Interrupted ∷ AsyncInterrupted
    ∷ AsyncMaximumMessageSize ∷ AsyncMaximumMessageSizeResponse ∷ AsyncInitialize ∷ AsyncInitializeResponse ∷ AsyncDeviceClear
    ∷ AsyncServiceRequest ∷ AsyncStatusQuery ∷ AsyncStatusResponse ∷ AsyncDeviceClearAcknowledge ∷ AsyncLockInfo
    ∷ AsyncLockInfoResponse ∷ []

-- the type of a code
abbrev pub type_of : ℕ → Option MessageType
type_of code = slice_get types code
