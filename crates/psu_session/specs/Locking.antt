-- The lock that an AsyncLock requests. Source: IVI-6.1, AsyncLock.
use Rattle.std.specs.Prelude.{ℕ, nat_le, Option, Some, None, if◌then◌else◌, List, [], ◌∷◌, length}
use Rattle.psu_locks.specs.declared.requests.Kind.{Kind}
use Rattle.psu_locks.specs.declared.requests.Kind.TheVariants.{Exclusive, Shared}

-- the exclusive lock without a string, else the lock that is shared under it; a string has at most 256 bytes
abbrev pub kind_of : List ℕ → Option Kind
kind_of [] = Some Exclusive
kind_of (x ∷ xs) = if nat_le (length (x ∷ xs)) 256 then Some (Shared (x ∷ xs)) else None
