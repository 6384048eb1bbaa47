use Rattle.std.proofs.Common.{◌≡◌, ◌<◌, length, get_or, ℕ, List, arith, rules}
use Rattle.psu_settings.proofs.Bytes.{high, low, flags, seven}
use Rattle.psu_settings.proofs.output_settings.OutputSettings.of_bytes.Goals as goal

pub returns-then-is_allowed-clause-found : goal.returns-then-is_allowed-clause-found
returns-then-is_allowed-clause-found c =
    let bytes : List ℕ = c.args.bytes.now in
    let size : length bytes ≡ 7 = omega (arith, c.in-len7.len_at_least, c.in-len7.len_below) in
    let byte : (k : ℕ) → get_or bytes k 0 < 256 = λ k. omega (arith, c.type_inv.bytes k) in
    let v1 = high _ _ c.from_be_bytes.result (byte 0) (byte 1) c.from_be_bytes.ensures in
    let v0 = low _ _ c.from_be_bytes.result (byte 0) (byte 1) c.from_be_bytes.ensures in
    let i1 = high _ _ c.from_be_bytes-2.result (byte 2) (byte 3) c.from_be_bytes-2.ensures in
    let i0 = low _ _ c.from_be_bytes-2.result (byte 2) (byte 3) c.from_be_bytes-2.ensures in
    let l1 = high _ _ c.from_be_bytes-3.result (byte 4) (byte 5) c.from_be_bytes-3.ensures in
    let l0 = low _ _ c.from_be_bytes-3.result (byte 4) (byte 5) c.from_be_bytes-3.ensures in
    let set = flags (get_or bytes 6 0) (omega (arith, c.if-flags-gt3.false)) in
    let whole = seven bytes size in
    (search rules, cc)
