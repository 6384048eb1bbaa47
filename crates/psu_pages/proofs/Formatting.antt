-- A fresh disk.
use Rattle.std.proofs.Common.{◌≡◌, ℕ, ◌+◌, ◌*◌, ◌≤◌, List, [], length, refl, ◌∙◌, arith}
use Rattle.psu_disk.specs.Disk.{Range, SameBut}
use Rattle.psu_pages.specs.declared.root.Root.TheVariants.{First, Second}
use Rattle.psu_pages.specs.Image.{gate_at, gate}
use Rattle.psu_pages.specs.Shown.{HasContents, Encodes}
use Rattle.psu_pages.specs.Spelling.{AreRootContents}
use Rattle.psu_pages.proofs.Keeping.{agrees_gate, contents_same}
use Rattle.psu_pages.proofs.Making.{ready}
use Rattle.psu_pages.proofs.Encoding.{its_pages, room}

-- the second gate is closed in x, the first root's contents are written in y, and its gate is open in z
module _ (limit number : ℕ) (contents x y z : List ℕ) (are_contents : AreRootContents limit number [] contents x) (least : 4 ≤ limit) (most : limit ≤ 480) (fits : 512 * (2 + 2 * limit) ≤ length x) (shut : gate Second x ≡ 0)
    (written : SameBut (gate_at First + 1) 511 x y) (has_contents : Range (gate_at First + 1) 511 y ≡ contents) (gated : SameBut (gate_at First) 1 y z) (is_open : gate First z ≡ 165) where
  contents_y : HasContents First 2 limit number [] [] y
  contents_y = ready First limit number [] [] y least most are_contents.number_fits (omega (arith, fits, written.size)) (omega arith) tt tt tt tt (omega arith) tt (has_contents ∙ are_contents.contents_are) refl refl

  contents_z : HasContents First 2 limit number [] [] z
  contents_z = contents_same First y z (room First 2 limit number [] [] y contents_y)
      (agrees_gate First (gate_at First) 1 (omega arith) (omega arith) y z gated (omega arith) _ (its_pages First 2 limit number [] [] y contents_y)) 2 limit number [] [] contents_y

  pub shut_z : gate Second z ≡ 0
  shut_z = gated.above 512 (omega arith) ∙ written.above 512 (omega arith) ∙ shut

  pub encodes_z : Encodes First 2 limit number [] [] z
  encodes_z = record { current = record { open_gate = is_open; highest = λ is. absurd (omega (arith, shut_z, is)) }; has_contents = contents_z }
