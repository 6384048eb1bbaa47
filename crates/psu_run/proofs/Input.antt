-- The reads of an input, one after another.
use Rattle.psu_run.proofs.Common.{◌≡◌, ℕ, ◌+◌, ◌≤◌, List, [], ◌++◌, length, take, refl, subst, sym, arith, append-nil, Option, Consumes, Consumes-kept, Consumes-nil, Consumes-trans, HasRead, Keeps, common_steps, Read, RunCause, Some, Write, failed_reads, failed_writes, has, ◌≢◌, Ghosts, IsErrAnd, Result, RunFault, end_of, Written, Fails, SaysUntil, OutputState, Memory, Open, Device, TooLong, None}
use Rattle.psu_run.proofs.Cuts.{writes_none}
use Rattle.psu_run.specs.Lines.{Counts, Reads, ReadsNoFurther, reads_of}

counts_then : (m f e n g d : ℕ) (a b c : Option Reads) → Counts (reads_of m f e) a b → Counts (reads_of n g d) b c → Counts (reads_of (m + n) (f + g) (e + d)) a c
counts_then m f e n g d a b c p q = grind arith

-- before the first read
pub read_start : (made : ℕ) (from : Option (List ℕ)) (r : Option Reads) → made ≡ 0 → HasRead made made 0 [] from from r r
read_start made from r none = grind arith

-- one more read, which returns bytes
pub read_more : {made next : ℕ} (n : ℕ) {seen : List ℕ} (buf : List ℕ) {from to left : Option (List ℕ)} {r s t : Option Reads} → HasRead made made 0 seen from to r s
    → Consumes to left (take n buf) → (1 ≤ n → Counts (reads_of 1 1 0) s t) → (n ≡ 0 → ⊥) → n ≤ length buf → next ≡ made + 1 → HasRead next next 0 (seen ++ take n buf) from left r t
read_more {made} {next} n {seen} buf {from} {to} {left} {r} {s} {t} has took counts some bound is =
    let least : 1 ≤ n = grind (arith, some) in
    subst (λ (k : ℕ). HasRead k k 0 (seen ++ take n buf) from left r t) (sym is) (record {
      taken = Consumes-trans from to left seen (take n buf) has.taken took;
      counted = counts_then made made 0 1 1 0 r s t has.counted (counts least);
      each = grind (arith, common_steps, has.each, least, bound);
    })

-- one more read, which returns no bytes, or fails
read_last : {made : ℕ} (failed : ℕ) {seen : List ℕ} {from to left : Option (List ℕ)} {r s t : Option Reads} → HasRead made made 0 seen from to r s → Consumes to left [] → Counts (reads_of 1 0 failed) s t → HasRead (made + 1) made failed seen from left r t
read_last {made} failed {seen} {from} {to} {left} {r} {s} {t} has took counts =
    let none : made + 0 ≡ made = omega arith in let last : 0 + failed ≡ failed = omega arith in record {
      taken = subst (Consumes from left) (append-nil seen) (Consumes-trans from to left seen [] has.taken took);
      counted = subst (λ (k : ℕ). Counts (reads_of (made + 1) k failed) r t) none (subst (λ (d : ℕ). Counts (reads_of (made + 1) (made + 0) d) r t) last (counts_then made made 0 1 0 failed r s t has.counted counts));
      each = has.each;
    }

-- one more read, which returns none
pub read_none : {made : ℕ} {seen : List ℕ} {from to left : Option (List ℕ)} {r s t : Option Reads} → HasRead made made 0 seen from to r s → Consumes to left [] → Counts (reads_of 1 0 0) s t → HasRead (made + 1) made 0 seen from left r t
read_none has took counts = read_last 0 has took counts

-- one more read, which fails
pub read_failed : {made : ℕ} {seen : List ℕ} {from to left : Option (List ℕ)} {r s t : Option Reads} → HasRead made made 0 seen from to r s → Keeps to left → Counts (reads_of 1 0 1) s t → HasRead (made + 1) made 1 seen from left r t
read_failed {made} {seen} {from} {to} {left} has kept counts = read_last 1 has (Consumes-kept to to left [] (Consumes-nil to) kept) counts

-- ---- how far a run reads

-- a run that reads nothing
pub no_reads : (failed : ℕ) (from : Option (List ℕ)) (r : Option Reads) → failed ≡ 0 → ReadsNoFurther failed from from r r
no_reads failed from r none = subst (λ (n : ℕ). ReadsNoFurther n from from r r) (sym none) (0, 0, [], read_start 0 from r refl, omega arith, omega arith)

-- a run whose last read returns no bytes
pub further_none : (failed bytes next : ℕ) {made : ℕ} {seen : List ℕ} {from left : Option (List ℕ)} {r t : Option Reads} → HasRead (made + 1) made failed seen from left r t → next ≡ made + 1 → next ≤ 1048576 → length seen ≡ bytes
    → bytes ≤ 16777216 → ReadsNoFurther failed from left r t
further_none failed bytes next {made} {seen} has is few taken short = (made + 1, made, seen, has, omega (arith, is, few), omega (arith, taken, short))

-- a run whose last read returns bytes
pub further_more : {made : ℕ} (n bytes next : ℕ) (seen buf : List ℕ) {from to left : Option (List ℕ)} {r s t : Option Reads} → HasRead made made 0 seen from to r s → Consumes to left (take n buf) → (1 ≤ n → Counts (reads_of 1 1 0) s t) → (n ≡ 0 → ⊥)
    → n ≤ length buf → next ≡ made + 1 → next ≤ 1048576 → length seen ≡ bytes → bytes ≤ 16777216 → length buf ≡ 65536 → ReadsNoFurther 0 from left r t
further_more n bytes next seen buf has took counts some bound is few taken short fits =
    (next, next, seen ++ take n buf, read_more n buf has took counts some bound is, few, grind (arith, common_steps, taken, short, bound, fits))

-- ---- what fails in a run with this end

pub no_failed_read : (cause : RunCause) → cause ≢ Read → failed_reads (Some cause) ≡ 0
no_failed_read cause other = grind arith

no_failed_write : (cause : RunCause) → cause ≢ Write → failed_writes (Some cause) ≡ 0
no_failed_write cause other = grind arith

pub end_passed : {D A : Type 0} {G : Ghosts D} (r : Result D (RunFault D A G)) (fault : RunFault D A G) (P : Option RunCause → Type 0) → IsErrAnd r (λ reported. reported ≡ fault) → P (Some fault.cause) → P (end_of r)
end_passed x0 fault x2 is x4 = grind arith

-- a fault that is propagated, for which no read failed
pub reads_passed : {D A : Type 0} {G : Ghosts D} (r : Result D (RunFault D A G)) (fault : RunFault D A G) (from left : Option (List ℕ)) (s t : Option Reads) → IsErrAnd r (λ reported. reported ≡ fault) → fault.cause ≢ Read → ReadsNoFurther 0 from left s t → ReadsNoFurther (failed_reads (end_of r)) from left s t
reads_passed r fault from left s t is other reads = end_passed r fault (λ end. ReadsNoFurther (failed_reads end) from left s t) is (subst (λ (n : ℕ). ReadsNoFurther n from left s t) (sym (no_failed_read fault.cause other)) reads)

-- for which no write failed, or one did
pub writes_passed : {D A : Type 0} {G : Ghosts D} (r : Result D (RunFault D A G)) (fault : RunFault D A G) (u v : Written) → IsErrAnd r (λ reported. reported ≡ fault) → Fails (failed_writes (Some fault.cause)) u.failed v.failed → Fails (failed_writes (end_of r)) u.failed v.failed
writes_passed r fault u v is counted = end_passed r fault (λ end. Fails (failed_writes end) u.failed v.failed) is counted

pub no_writes : (cause : RunCause) (u : Written) → cause ≢ Write → Fails (failed_writes (Some cause)) u.failed u.failed
no_writes cause u other = subst (λ (n : ℕ). Fails n u.failed u.failed) (sym (no_failed_write cause other)) (writes_none u).failed

-- what is known of the output at an end
pub until_fails : (end : Option RunCause) (a b : OutputState) (text : List ℕ) → SaysUntil end a b text → Fails (failed_writes end) a.written.failed b.written.failed
until_fails None a b text until = (until.whole (λ e. cc)).1.failed
until_fails (Some Write) a b text until = (until.missing refl).failed
until_fails (Some Read) a b text until = (until.whole (λ e. cc)).1.failed
until_fails (Some TooLong) a b text until = (until.whole (λ e. cc)).1.failed
until_fails (Some (Memory sign)) a b text until = (until.whole (λ e. cc)).1.failed
until_fails (Some (Open why)) a b text until = (until.whole (λ e. cc)).1.failed
until_fails (Some Device) a b text until = (until.whole (λ e. cc)).1.failed
