use Rattle.std.proofs.Common.{◌≡◌, ℕ, List, sym, ap, ◌∙◌, Some}
use Rattle.psu_hislip.specs.First.{first_of}
use Rattle.psu_hislip.specs.Stream.Received.{Frame}
use Rattle.psu_hislip.specs.declared.header.Header.{Header}
use Rattle.psu_hislip.specs.declared.first.First.TheVariants.{Start, Join}
use Rattle.psu_hislip.specs.declared.message_type.MessageType.TheVariants.{Initialize, AsyncInitialize}
use Rattle.psu_hislip.proofs.Types.{code_of_type}
use Rattle.psu_hislip.proofs.first.First.of.Goals as goal

started : (h : Header) (p : List ℕ) → h.kind ≡ 0 → Start ≡ first_of (Frame h p)
started h p e = rw e

joined : (h : Header) (p : List ℕ) → h.kind ≡ 17 → Join h.parameter ≡ first_of (Frame h p)
joined h p e = rw e

pub returns-in-Some-Initialize : goal.returns-in-Some-Initialize
returns-in-Some-Initialize g c =
    rw (c.in-Frame.is) (started c.in-Frame.header c.in-Frame.field-1.items
    (code_of_type c.in-Frame.header.kind Initialize (sym c.message_type.ensures ∙ c.in-Some-Initialize.is ∙ ap Some c.in-Some-Initialize.field-0-is)))

pub returns-in-Some-AsyncInitialize : goal.returns-in-Some-AsyncInitialize
returns-in-Some-AsyncInitialize g c =
    rw (c.in-Frame.is) (joined c.in-Frame.header c.in-Frame.field-1.items
    (code_of_type c.in-Frame.header.kind AsyncInitialize (sym c.message_type.ensures ∙ c.in-Some-AsyncInitialize.is ∙ ap Some c.in-Some-AsyncInitialize.field-0-is)))
