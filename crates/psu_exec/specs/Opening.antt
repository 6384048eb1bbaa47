-- Which session opens.
use Rattle.std.specs.Prelude.{◌≡◌, ℕ, ◌≤◌, ◌<◌, length, Some, None, true, false}
use Rattle.psu_exec.specs.Device.{State, is_open, place_of}
use Rattle.psu_exec.specs.Calls.{Opened, Allows}

-- no two open sessions share a place
abbrev pub PlacesAreApart : Type 0
PlacesAreApart = (s : State) (one other : ℕ) → is_open s one ≡ true → is_open s other ≡ true → place_of one ≡ place_of other → one ≡ other

-- the session that opens was not open, is open then, and each with a lower number was open; none opens only if each
-- place is taken
pub record OpensLeast (s new : State) (session : ℕ) : Type 0 where
  pub free : is_open s session ≡ false
  pub now_open : is_open new session ≡ true
  pub least : (other : ℕ) → 1 ≤ other → other < session → is_open s other ≡ true

abbrev pub OpensTheLeast : Type 0
OpensTheLeast = (s new : State) → ((session : ℕ) → Allows s (Opened (Some session)) new → OpensLeast s new session)
    × (Allows s (Opened None) new → (other : ℕ) → 1 ≤ other → other ≤ length s.volatile.open_now → is_open s other ≡ true)
