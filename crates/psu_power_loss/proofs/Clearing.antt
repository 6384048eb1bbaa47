-- The contents after `*PSC`.
use Rattle.std.proofs.Common.{◌≡◌, ℕ, ◌≤◌, ◌&&◌, Bool, true, false, Option, Some, None, List, ◌++◌, length, bit_and, nat_le, refl, sym, ap, ◌∙◌, arith}
use Rattle.std.specs.Prelude.{unwrap_or}
use Rattle.std.proofs.lemmas.Bool.{leb-true}
use Rattle.std.proofs.lemmas.Bool.Decides.{nat_tests}
use Rattle.std.proofs.lemmas.Nat.{and_assoc}
use Rattle.std.specs.Int.Bits.{and_zero_r}
use Rattle.psu_map.specs.Map.{Item, cost}
use Rattle.psu_status.specs.declared.groups.Enables.{Enables}
use Rattle.psu_nv.specs.Commands.{apply, without_mss, PowerOnClear}
use Rattle.psu_nv.specs.Contents.{Contents, IsContents, enables_items, items_of, cost_of, fits}

both_true : (a b : Bool) → a && b ≡ true → (a ≡ true) × (b ≡ true)
both_true true b h = (refl, h)
both_true false b h = cc

within : (n most : ℕ) → n ≤ most → nat_le n most ≡ true
within n most le = grind (arith, nat_tests)

-- without enables
pub sound_cleared : (c : Contents) → IsContents c → IsContents (apply c (PowerOnClear None))
unfolding apply
sound_cleared c is = record {
  count = is.count;
  settings = is.settings;
  user = is.user;
  macros = is.macros;
  distinct = is.distinct;
  most_macros = is.most_macros;
  mss = λ e h. cc;
  files = is.files;
  sorted = is.sorted;
}

-- with other enables
bit_6 : (n : ℕ) → bit_and (without_mss n) 64 ≡ 0
bit_6 n = and_assoc 64 n 191 ∙ and_zero_r n

same_sre : (one x : Enables) → Some one ≡ Some x → x.sre ≡ one.sre
same_sre one x e = sym (ap (λ (o : Option Enables). (unwrap_or o one).sre) e)

pub sound_kept : (c : Contents) (kept : Enables) → IsContents c → IsContents (apply c (PowerOnClear (Some kept)))
unfolding apply
sound_kept c kept is = record {
  count = is.count;
  settings = is.settings;
  user = is.user;
  macros = is.macros;
  distinct = is.distinct;
  most_macros = is.most_macros;
  mss = λ x e. ap (λ s. bit_and s 64) (same_sre (record kept { sre = without_mss kept.sre }) x e) ∙ bit_6 kept.sre;
  files = is.files;
  sorted = is.sorted;
}

-- contents without enables cost at most as much
without_some : (enables : Option Enables) (rest : List Item) → cost rest ≤ cost (enables_items enables ++ rest)
without_some None rest = omega arith
without_some (Some e) rest = omega arith

fewer : (limit a b macros : ℕ) → b ≤ a → nat_le a limit && nat_le macros 32 ≡ true → nat_le b limit && nat_le macros 32 ≡ true
fewer limit a b macros le h =
    let both = both_true (nat_le a limit) (nat_le macros 32) h in
    let most = leb-true a limit both.0 in
    rw (within b limit (omega (arith, le, most)), both.1) refl

pub fits_cleared : (limit : ℕ) (c : Contents) → fits limit c ≡ true → fits limit (apply c (PowerOnClear None)) ≡ true
unfolding apply items_of
fits_cleared limit c h = fewer limit (cost_of c) (cost_of (record c { enables = None })) (length c.macros) (without_some c.enables _) h
