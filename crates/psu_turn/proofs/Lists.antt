-- Lists, histories and their calls.
use Rattle.std.proofs.Common.{◌≡◌, ℕ, zero, suc, ◌+◌, ◌<◌, ◌≢◌, if◌then◌else◌, List, [], ◌∷◌, ◌++◌, length, set, sym, refl, ap, ◌∙◌, subst, ◌⊎◌, inl, inr, ⊎_elim, arith, eq-eqb, ne_eqb}
use mathlib.Core.Logic.{dite}
use mathlib.Core.Option.{some, some-injective, some-ne-none}
use native.Mathlib.Decide.{ℕ_discrete}
use lib.ListN.{get_elem?}
use Rattle.psu_turn.specs.declared.numbered.Numbered.{Numbered}
use Rattle.psu_turn.specs.History.{numbered, calls_by, StartsWith, HistoryLeads}

module _ {A : Type 0} where
  pub at_bound : (l : List A) (i : ℕ) (a : A) → get_elem? l i ≡ some a → i < length l
  at_bound [] i a e = absurd (some-ne-none a (sym e))
  at_bound (x ∷ xs) zero a e = omega arith
  at_bound (x ∷ xs) (suc i) a e = let r = at_bound xs i a e in omega arith

  pub at_end : (l : List A) (a b : A) (j : ℕ) → get_elem? (l ++ a ∷ []) j ≡ some b → (get_elem? l j ≡ some b) ⊎ ((j ≡ length l) × (a ≡ b))
  at_end [] a b zero e = inr (refl, some-injective a b e)
  at_end [] a b (suc j) e = absurd (some-ne-none b (sym e))
  at_end (x ∷ xs) a b zero e = inl e
  at_end (x ∷ xs) a b (suc j) e = ⊎_elim inl (λ t. inr (ap suc t.0, t.1)) (at_end xs a b j e)

  pub append_nil : (l : List A) → l ++ [] ≡ l
  append_nil [] = refl
  append_nil (x ∷ xs) = λ k. x ∷ append_nil xs k

  pub append_append : (a b c : List A) → (a ++ b) ++ c ≡ a ++ (b ++ c)
  append_append [] b c = refl
  append_append (x ∷ xs) b c = λ k. x ∷ append_append xs b c k

  pub length_append : (a b : List A) → length (a ++ b) ≡ length a + length b
  length_append [] b = omega arith
  length_append (x ∷ xs) b = let r = length_append xs b in omega arith

  pub nil_of : (a b : List A) → length (a ++ b) ≡ 0 → a ≡ []
  nil_of [] b e = refl
  nil_of (x ∷ xs) b e = absurd (omega arith)

  pub set_swap : (l : List A) (i j : ℕ) (a b : A) → j ≢ i → set (set l i a) j b ≡ set (set l j b) i a
  set_swap [] i j a b n = refl
  set_swap (x ∷ xs) zero zero a b n = absurd (n refl)
  set_swap (x ∷ xs) zero (suc j) a b n = refl
  set_swap (x ∷ xs) (suc i) zero a b n = refl
  set_swap (x ∷ xs) (suc i) (suc j) a b n = λ k. x ∷ set_swap xs i j a b (λ e. n (ap suc e)) k

  pub starts_itself : (l : List A) → StartsWith l l
  starts_itself l = ([], sym (append_nil l))

  pub starts_more : (l more seen : List A) → StartsWith l seen → StartsWith (l ++ more) seen
  starts_more l more seen s = (s.0 ++ more, ap (λ (x : List A). x ++ more) s.1 ∙ append_append seen s.0 more)

module _ {E : Type 0} where
  pub calls_append : (k : ℕ) (a b : List (Numbered E)) → calls_by k (a ++ b) ≡ calls_by k a ++ calls_by k b
  calls_append k [] b = refl
  calls_append k (x ∷ xs) b = dite (ℕ_discrete x.seat k)
      (λ e. subst (λ t. (if t then x.entry ∷ calls_by k (xs ++ b) else calls_by k (xs ++ b)) ≡ (if t then x.entry ∷ calls_by k xs else calls_by k xs) ++ calls_by k b) (sym (eq-eqb x.seat k e)) (λ i. x.entry ∷ calls_append k xs b i))
      (λ n. subst (λ t. (if t then x.entry ∷ calls_by k (xs ++ b) else calls_by k (xs ++ b)) ≡ (if t then x.entry ∷ calls_by k xs else calls_by k xs) ++ calls_by k b) (sym (ne_eqb x.seat k n)) (calls_append k xs b))

  pub call_mine : (k : ℕ) (e : E) → calls_by k (numbered k e ∷ []) ≡ e ∷ []
  call_mine k e = ap (λ t. if t then e ∷ [] else []) (eq-eqb k k refl)

  pub call_other : (k j : ℕ) (e : E) → j ≢ k → calls_by k (numbered j e ∷ []) ≡ []
  call_other k j e n = ap (λ t. if t then e ∷ [] else []) (ne_eqb j k n)

  -- one more entry under the number k
  pub calls_more : (k : ℕ) (log : List (Numbered E)) (mine : List E) (e : E) → calls_by k log ≡ mine → calls_by k (log ++ numbered k e ∷ []) ≡ mine ++ e ∷ []
  calls_more k log mine e is = calls_append k log (numbered k e ∷ []) ∙ (ap (λ (x : List E). calls_by k log ++ x) (call_mine k e) ∙ ap (λ (x : List E). x ++ e ∷ []) is)

  -- one more entry under another number
  pub calls_same : (k j : ℕ) (log : List (Numbered E)) (mine : List E) (e : E) → j ≢ k → calls_by k log ≡ mine → calls_by k (log ++ numbered j e ∷ []) ≡ mine
  calls_same k j log mine e n is = calls_append k log (numbered j e ∷ []) ∙ (ap (λ (x : List E). calls_by k log ++ x) (call_other k j e n) ∙ (append_nil (calls_by k log) ∙ is))

  -- a seat that has made no call has none in what was seen
  pub calls_none : (k : ℕ) (log seen : List (Numbered E)) → StartsWith log seen → calls_by k log ≡ [] → calls_by k seen ≡ []
  calls_none k log seen s none = nil_of (calls_by k seen) (calls_by k s.0) (ap (λ (x : List E). length x) (sym (calls_append k seen s.0) ∙ (ap (calls_by k) (sym s.1) ∙ none)))

module _ {T E : Type 0} (allows : T → E → T → Type 0) where
  pub leads_more : (s m t : T) (log : List (Numbered E)) (k : ℕ) (e : E) → HistoryLeads allows s log m → allows m e t → HistoryLeads allows s (log ++ numbered k e ∷ []) t
  leads_more s m t [] k e way last = (t, subst (λ (x : T). allows x e t) (sym way) last, refl)
  leads_more s m t (x ∷ xs) k e way last = (way.0, way.1, leads_more way.0 m t xs k e way.2 last)
