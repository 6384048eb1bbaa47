use Rattle.std.proofs.Common.{arith, ap, Some}
use Rattle.psu_hislip.proofs.Headers.{read_bytes, read_one, first_of_header}
use Rattle.psu_hislip.proofs.header.Header.read.Goals as goal

pub returns-in_default-clause-inverse : goal.returns-in_default-clause-inverse
returns-in_default-clause-inverse c = λ header fits e. absurd (grind (arith, first_of_header header c.args.bytes.now e))

pub returns-in_default-2-clause-inverse : goal.returns-in_default-2-clause-inverse
returns-in_default-2-clause-inverse c = λ header fits e. absurd (grind (arith, first_of_header header c.args.bytes.now e))

pub returns-clause-bytes : goal.returns-clause-bytes
returns-clause-bytes c = read_bytes c.args.bytes.now c.from_be_bytes.result c.from_be_bytes-2.result c.told-bytes c.fits-bytes (omega arith) (omega arith) c.from_be_bytes.ensures c.from_be_bytes-2.ensures

pub returns-clause-inverse : goal.returns-clause-inverse
returns-clause-inverse c = λ header fits e.
    let read = read_bytes c.args.bytes.now c.from_be_bytes.result c.from_be_bytes-2.result c.told-bytes c.fits-bytes (omega arith) (omega arith) c.from_be_bytes.ensures c.from_be_bytes-2.ensures in
    ap Some (read_one _ header c.args.bytes.now (c.fits-bytes 2, c.fits-bytes 3, c.from_be_bytes.type_inv, c.from_be_bytes-2.type_inv) fits read e)
