-- Why a power-on from a map fails, and when it doesn't.
use Rattle.std.proofs.Common.{◌≡◌, List, sym, ap, ◌∙◌}
use Rattle.psu_map.specs.Map.{Item}
use Rattle.psu_nv.specs.Contents.{Contents, IsContents, items_of}
use Rattle.psu_nv.specs.Decoding.{IsFault, has_keys}
use Rattle.psu_nv.specs.declared.decode.DecodeFault.{DecodeFault}
use Rattle.psu_nv.specs.declared.decode.DecodeFault.TheVariants as decoding
use Rattle.psu_nv.proofs.Kept.{contents_keys}
use Rattle.psu_exec.specs.Shown.{cause_of}
use Rattle.psu_exec.specs.declared.start_cause.PowerCause.TheVariants.{BadItems, Memory}

pub no_start : (items : List Item) (fault : DecodeFault) → IsFault items fault → cause_of fault ≡ BadItems → (c : Contents) → IsContents c → items_of c ≡ items → ⊥
no_start items decoding.BadKey keys e c is same = let good = contents_keys c is in let bad = sym (ap has_keys same) ∙ good in cc
no_start items decoding.BadValue value e c is same = value.1 (record { contents = c; are = is; items_are = same })
no_start items decoding.Memory kept e c is same = cc

-- if the cause is memory, the map is that of contents
pub kept_start : (items own : List Item) (fault : DecodeFault) → IsFault items fault → cause_of fault ≡ Memory → items ≡ own → (c : Contents) × IsContents c × (items_of c ≡ own)
kept_start items own decoding.Memory kept e is = (kept.contents, kept.are, kept.items_are ∙ is)
kept_start items own other another e is = absurd cc
