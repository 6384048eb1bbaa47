-- Lists of calls on a file, with one more call appended.
use Rattle.std.proofs.Common.{◌≡◌, ◌+◌, ℕ, true, false, List, [], ◌∷◌, ◌++◌, length, replicate, refl, sym, ap, subst, arith}
use Rattle.std.proofs.lemmas.List.{length-replicate}
use Rattle.psu_disk.specs.FileCalls.{FileCall, AreFileCalls, AreZeros}

-- one more call, after others
pub call_more : {F : Type 0} (made : F → FileCall → F → Type 0) (calls : List FileCall) (call : FileCall) (old mid new : F) → AreFileCalls made calls old mid → made mid call new → AreFileCalls made (calls ++ call ∷ []) old new
call_more made [] call old mid new is was = (new, subst (λ f. made f call new) (sym is) was, refl)
call_more made (first ∷ calls) call old mid new are was = (are.0, are.1, call_more made calls call are.0 mid new are.2 was)

-- one more write of zeros, after others
pub zeros_more : (at place n : ℕ) (calls : List FileCall) → AreZeros at place calls → AreZeros at (place + n) (calls ++ FileCall.WriteAt place (replicate n 0) true ∷ [])
zeros_more at place n [] is =
    let long : length (replicate n 0) ≡ n = length-replicate n 0 in
    (sym is, ap (λ (m : ℕ). replicate m 0) (sym long), omega (arith, is, long))
zeros_more at place n (FileCall.WriteAt p b true ∷ calls) are = (are.0, are.1, zeros_more (at + length b) place n calls are.2)
zeros_more at place n (FileCall.WriteAt p b false ∷ calls) are = absurd are
zeros_more at place n (FileCall.ReadAt p b w ∷ calls) are = absurd are
zeros_more at place n (FileCall.SyncData w ∷ calls) are = absurd are
zeros_more at place n (FileCall.SyncAll w ∷ calls) are = absurd are
zeros_more at place n (FileCall.Looked s ∷ calls) are = absurd are
zeros_more at place n (FileCall.TriedLock a ∷ calls) are = absurd are
