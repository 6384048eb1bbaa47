-- A connection that has sent its first message.
use Rattle.std.specs.Prelude.{ℕ, List}

-- the bytes of its first message, and those that were read after it
pub record FirstBytes : Type 0 where
  pub message : List ℕ
  pub after : List ℕ
