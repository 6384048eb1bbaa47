use Rattle.std.proofs.Common.{rules}
use Rattle.psu_hislip.specs.Header.{header_bytes}
use Rattle.psu_hislip.proofs.header.Header.bytes.Goals as goal

pub returns : goal.returns
unfolding header_bytes
returns c = search rules
