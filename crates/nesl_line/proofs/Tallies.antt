-- Counts of what was written.
use Rattle.std.proofs.Common.{◌≡◌, ℕ, ◌+◌, ◌-◌, ◌^◌, ◌<◌, ◌≤◌, ◌==◌, ◌&&◌, Bool, true, false, nat_lt, refl, sym, ap, ◌∙◌, subst, arith, ◌⊎◌, inl, inr, ⊎_elim, cond, lt-ltb}
use Rattle.std.proofs.lemmas.Bool.{cases_lt, eqb-true}
use Rattle.nesl_line.specs.Tally.{WriteTally, risen_by, Rose, flushed_by, ReadTally}
use Rattle.nesl_line.specs.Steps.{written_by, WriteFailed, Flushed}

pub counted_least : (n k : ℕ) → n ≤ risen_by k n
counted_least n k = omega arith

pub counted_most : (n k : ℕ) → risen_by k n ≤ n + k
counted_most n k = omega arith

pub counted_exact : (n k : ℕ) → n + k < 2 ^ 64 → risen_by k n ≡ n + k
counted_exact n k h = omega (arith, h)

pub counted_none : (n : ℕ) → risen_by 0 n ≡ n
counted_none n = omega arith

pub counted_then : (a b n : ℕ) → risen_by b (risen_by a n) ≡ risen_by (a + b) n
counted_then a b n = omega arith

pub rose : (n : ℕ) → Rose n (risen_by 1 n)
rose n = ⊎_elim (λ h. inl (omega (arith, h))) (λ h. inr (omega (arith, h))) (cases_lt n (2 ^ 64 - 1))

pub written_none : (t : WriteTally) → t ≡ written_by 0 t
written_none t = ap (λ n. record t { unflushed = n }) (sym (counted_none t.unflushed))

pub written_then : (a b : ℕ) (t : WriteTally) → written_by b (written_by a t) ≡ written_by (a + b) t
written_then a b t = ap (λ n. record t { unflushed = n }) (counted_then a b t.unflushed)

-- n bytes more
pub written_more : (a n : ℕ) (s t u : WriteTally) → t ≡ written_by a s → u ≡ written_by n t → u ≡ written_by (a + n) s
written_more a n s t u e f = f ∙ ap (written_by n) e ∙ written_then a n s

pub flushed_none : (t : WriteTally) → t ≡ flushed_by 0 t
flushed_none t = ap (λ n. record t { flushed = n }) (sym (counted_none t.flushed))

-- what is unflushed after some flushes, and some more
left_unflushed : (a b k : ℕ) (first second both : Bool) → (a == 0) ≡ first → (b == 0) ≡ second → (a + b == 0) ≡ both → cond second (cond first k 0) 0 ≡ cond both k 0
left_unflushed a b k true true true e f g = refl
left_unflushed a b k true true false e f g = let x = eqb-true a 0 e in let y = eqb-true b 0 f in let sum : a + b ≡ 0 = omega (arith, x, y) in let z : (a + b == 0) ≡ true = ap (λ (n : ℕ). n == 0) sum in let no' : true ≡ false = sym z ∙ g in absurd (cc)
left_unflushed a b k true false true e f g = let x : a + b ≡ 0 = eqb-true (a + b) 0 g in let none : b ≡ 0 = omega (arith, x) in let z : (b == 0) ≡ true = ap (λ (n : ℕ). n == 0) none in let no' : true ≡ false = sym z ∙ f in absurd (cc)
left_unflushed a b k true false false e f g = refl
left_unflushed a b k false true true e f g = let x : a + b ≡ 0 = eqb-true (a + b) 0 g in let none : a ≡ 0 = omega (arith, x) in let z : (a == 0) ≡ true = ap (λ (n : ℕ). n == 0) none in let no' : true ≡ false = sym z ∙ e in absurd (cc)
left_unflushed a b k false true false e f g = refl
left_unflushed a b k false false true e f g = let x : a + b ≡ 0 = eqb-true (a + b) 0 g in let none : a ≡ 0 = omega (arith, x) in let z : (a == 0) ≡ true = ap (λ (n : ℕ). n == 0) none in let no' : true ≡ false = sym z ∙ e in absurd (cc)
left_unflushed a b k false false false e f g = refl

pub flushed_then : (a b : ℕ) (t : WriteTally) → flushed_by b (flushed_by a t) ≡ flushed_by (a + b) t
flushed_then a b t = let unflushed = left_unflushed a b t.unflushed (a == 0) (b == 0) (a + b == 0) refl refl refl in λ i. record t { flushed = counted_then a b t.flushed i; unflushed = unflushed i }

-- n flushes, and then what else was counted
pub flushed_more : (well : Bool) (m n : ℕ) (a b c : WriteTally) → b ≡ flushed_by m a → Flushed well n b c → Flushed well (m + n) a c
flushed_more true m n a b c e t = t ∙ ap (flushed_by n) e ∙ flushed_then m n a
flushed_more false m n a b c e t = let P : WriteTally → Type 0 = λ x. WriteFailed x c in subst P e t

-- a flush leaves nothing unflushed of what was written before it
pub flushed_after : (well : Bool) (k : ℕ) (a b c : WriteTally) → b ≡ written_by k a → Flushed well 1 b c → Flushed well 1 a c
flushed_after true k a b c e t = t ∙ ap (flushed_by 1) e
flushed_after false k a b c e t = let P : WriteTally → Type 0 = λ x. WriteFailed x c in subst P e t

pub stalled : (a b : WriteTally) → b ≡ record a { stalled = risen_by 1 a.stalled } → WriteFailed a b
stalled a b e = let P : WriteTally → Type 0 = λ x. WriteFailed a x in subst P (sym e) (inr (rose a.stalled))

pub failed : (a b : WriteTally) → b ≡ record a { failed = risen_by 1 a.failed } → WriteFailed a b
failed a b e = let P : WriteTally → Type 0 = λ x. WriteFailed a x in subst P (sym e) (inl (rose a.failed))

-- what a write did to the tally, by how many bytes it took
took : (m n : ℕ) (a b : WriteTally) (none some : Bool) → (n == 0) ≡ none → nat_lt 0 m ≡ some → b ≡ cond (n == 0 && nat_lt 0 m) (record a { stalled = risen_by 1 a.stalled }) (written_by n a)
    → b ≡ cond (none && some) (record a { stalled = risen_by 1 a.stalled }) (written_by n a)
took m n a b none some e f t = t ∙ (λ i. cond (e i && f i) (record a { stalled = risen_by 1 a.stalled }) (written_by n a))

none_of : (n : ℕ) (b : Bool) → (n == 0) ≡ b → (n ≡ 0 → ⊥) → b ≡ false
none_of n true e h = absurd (h (eqb-true n 0 e))
none_of n false e h = refl

pub took_some : (m n : ℕ) (a b : WriteTally) → (n ≡ 0 → ⊥) → b ≡ cond (n == 0 && nat_lt 0 m) (record a { stalled = risen_by 1 a.stalled }) (written_by n a) → b ≡ written_by n a
took_some m n a b h t = took m n a b false (nat_lt 0 m) (none_of n (n == 0) refl h) refl t

pub took_none : (m n : ℕ) (a b : WriteTally) → n ≡ 0 → 0 < m → b ≡ cond (n == 0 && nat_lt 0 m) (record a { stalled = risen_by 1 a.stalled }) (written_by n a) → WriteFailed a b
took_none m n a b e h t = stalled a b (took m n a b true true (ap (λ k. k == 0) e) (lt-ltb 0 m h) t)

-- something was written, and then something failed
pub blamed_after : (k : ℕ) (a b c : WriteTally) → b ≡ written_by k a → WriteFailed b c → WriteFailed a c
blamed_after k a b c e t = let P : WriteTally → Type 0 = λ x. WriteFailed x c in subst P e t

-- this number of reads was made, and none of them failed
abbrev pub ReadsMade : ℕ → ReadTally → ReadTally → Type 0
ReadsMade k old new = new ≡ record { made = risen_by k old.made; failed = old.failed }

pub made_none : (t : ReadTally) → ReadsMade 0 t t
made_none t = ap (λ n. record t { made = n }) (sym (counted_none t.made))

pub made_more : (k : ℕ) (old now new : ReadTally) → ReadsMade k old now → new ≡ record now { made = risen_by 1 now.made } → ReadsMade (k + 1) old new
made_more k old now new e t = t ∙ ap (λ (x : ReadTally). record x { made = risen_by 1 x.made }) e ∙ ap (λ n. record { made = n; failed = old.failed }) (counted_then k 1 old.made)

pub made_few : (k : ℕ) (old new : ReadTally) → ReadsMade k old new → k ≤ 2 ^ 32 → (new.made ≤ old.made + 2 ^ 32) × (new.failed ≡ old.failed)
made_few k old new e h =
    let made : new.made ≡ risen_by k old.made = ap (λ (x : ReadTally). x.made) e in
    (omega (arith, made, counted_most old.made k, h), ap (λ (x : ReadTally). x.failed) e)

pub made_failed : (k : ℕ) (old now new : ReadTally) → ReadsMade k old now → new ≡ record now { made = risen_by 1 now.made; failed = risen_by 1 now.failed } → k < 2 ^ 32
    → (new.made ≤ old.made + 2 ^ 32) × (Rose old.failed new.failed ⊎ (new.made ≡ risen_by (2 ^ 32) old.made))
made_failed k old now new e t h =
    let made : new.made ≡ risen_by 1 now.made = ap (λ (x : ReadTally). x.made) t in
    let was : now.made ≡ risen_by k old.made = ap (λ (x : ReadTally). x.made) e in
    let few : new.made ≤ old.made + 2 ^ 32 = omega (arith, made, was, counted_most now.made 1, counted_most old.made k, h) in
    let failed' : new.failed ≡ risen_by 1 old.failed = ap (λ (x : ReadTally). x.failed) t ∙ ap (λ (x : ReadTally). risen_by 1 x.failed) e in
    let P : ℕ → Type 0 = λ x. Rose old.failed x in
    (few, inl (subst P (sym failed') (rose old.failed)))

pub made_all : (k : ℕ) (old new : ReadTally) → ReadsMade k old new → k ≡ 2 ^ 32 → (new.made ≤ old.made + 2 ^ 32) × (Rose old.failed new.failed ⊎ (new.made ≡ risen_by (2 ^ 32) old.made))
made_all k old new e h = ((made_few k old new e (omega arith)).0, inr (ap (λ (x : ReadTally). x.made) e ∙ ap (λ n. risen_by n old.made) h))
