-- Runs of bytes at the front.
use Rattle.std.proofs.Common.{◌≡◌, ℕ, suc, ◌≤◌, ◌<◌, Bool, true, false, cond, List, [], ◌∷◌, ◌++◌, length, get_or, refl, ap, subst, arith}
use Rattle.nesl_lex.specs.Lexemes.{AllBytes}
use Rattle.nesl_lex.specs.Scan.{front_len, Stops, Front}
use Rattle.nesl_lex.proofs.Starts.{clash}

-- the longest run at the front
front_more : (p : ℕ → Bool) (b : ℕ) (bs : List ℕ) (r : Bool) → p b ≡ r → Front p bs → Front p (b ∷ bs)
front_more p b bs true h f = record { front = b ∷ f.front; rest = f.rest; whole = ap (λ (xs : List ℕ). b ∷ xs) f.whole; long = rw h (ap suc f.long); each = (h, f.each); stops = f.stops }
front_more p b bs false h f = record { front = []; rest = b ∷ bs; whole = refl; long = rw h refl; each = tt; stops = h }

pub front_of : (p : ℕ → Bool) (bs : List ℕ) → Front p bs
front_of p [] = record { front = []; rest = []; whole = refl; long = refl; each = tt; stops = tt }
front_of p (b ∷ bs) = front_more p b bs (p b) refl (front_of p bs)

-- no run at the front is longer
pub each_le : (p : ℕ → Bool) (us xs front rest : List ℕ) → AllBytes p us → Stops p rest → us ++ xs ≡ front ++ rest → length us ≤ length front
each_le p [] xs front rest e s h = omega arith
each_le p (u ∷ us) xs [] [] e s h = cc
each_le p (u ∷ us) xs [] (r ∷ rest) e s h = let k : r ≡ u = cc in absurd (clash (p u) e.0 (subst (λ (x : ℕ). p x ≡ false) k s))
each_le p (u ∷ us) xs (v ∷ vs) rest e s h = let k : us ++ xs ≡ vs ++ rest = cc in omega (arith, each_le p us xs vs rest e.1 s k)

-- a run and the byte that ends it
pub record Closed (p : ℕ → Bool) (c : ℕ) (bytes : List ℕ) : Type 0 where
  pub inside : List ℕ
  pub rest : List ℕ
  pub whole : bytes ≡ inside ++ c ∷ rest
  pub long : length inside ≡ front_len p bytes
  pub each : AllBytes p inside

-- where a run ends
pub record Ended (p : ℕ → Bool) (c : ℕ) (n : ℕ) (bytes : List ℕ) : Type 0 where
  pub long : front_len p bytes ≡ n
  pub within : n < length bytes
  pub closes : get_or bytes n 0 ≡ c

closed_more : (p : ℕ → Bool) (c b : ℕ) (bs : List ℕ) (r : Bool) → p b ≡ r → cond r (suc (front_len p bs)) 0 < length (b ∷ bs) → get_or (b ∷ bs) (cond r (suc (front_len p bs)) 0) 0 ≡ c
    → (front_len p bs < length bs → get_or bs (front_len p bs) 0 ≡ c → Closed p c bs) → Closed p c (b ∷ bs)
closed_more p c b bs true k h e f =
    let r = f (omega arith) e in
    record { inside = b ∷ r.inside; rest = r.rest; whole = ap (λ (xs : List ℕ). b ∷ xs) r.whole; long = rw k (ap suc r.long); each = (k, r.each) }
closed_more p c b bs false k h e f = record { inside = []; rest = bs; whole = ap (λ (x : ℕ). x ∷ bs) e; long = rw k refl; each = tt }

pub closed_at : (p : ℕ → Bool) (c : ℕ) (bs : List ℕ) → front_len p bs < length bs → get_or bs (front_len p bs) 0 ≡ c → Closed p c bs
closed_at p c [] h e = absurd (omega arith)
closed_at p c (b ∷ bs) h e = closed_more p c b bs (p b) refl h e (closed_at p c bs)

stopped_more : (p : ℕ → Bool) (b : ℕ) (bs : List ℕ) (r : Bool) → p b ≡ r → cond r (suc (front_len p bs)) 0 < length (b ∷ bs)
    → (front_len p bs < length bs → p (get_or bs (front_len p bs) 0) ≡ false) → p (get_or (b ∷ bs) (cond r (suc (front_len p bs)) 0) 0) ≡ false
stopped_more p b bs true k h f = f (omega arith)
stopped_more p b bs false k h f = k

-- the byte after a run
pub stopped_at : (p : ℕ → Bool) (bs : List ℕ) → front_len p bs < length bs → p (get_or bs (front_len p bs) 0) ≡ false
stopped_at p [] h = absurd (omega arith)
stopped_at p (b ∷ bs) h = stopped_more p b bs (p b) refl h (stopped_at p bs)

ended_more : (p : ℕ → Bool) (c n b : ℕ) (bs : List ℕ) → p b ≡ true → Ended p c n bs → Ended p c (suc n) (b ∷ bs)
ended_more p c n b bs k e = record { long = rw k (ap suc e.long); within = omega (arith, e.within); closes = e.closes }

-- a run that is closed ends there
pub ended_at : (p : ℕ → Bool) (c : ℕ) → p c ≡ false → (us back bs : List ℕ) → us ++ c ∷ back ≡ bs → AllBytes p us → Ended p c (length us) bs
ended_at p c k [] back bs h e = subst (Ended p c 0) h (record { long = rw k refl; within = omega arith; closes = refl })
ended_at p c k (u ∷ us) back bs h e = subst (Ended p c (suc (length us))) h (ended_more p c (length us) u (us ++ c ∷ back) e.0 (ended_at p c k us back (us ++ c ∷ back) refl e.1))

-- closed runs at one place have one length
pub insides_same : (p : ℕ → Bool) (c : ℕ) → p c ≡ false → (us xs vs ys : List ℕ) → us ++ c ∷ xs ≡ vs ++ c ∷ ys → AllBytes p us → AllBytes p vs → length us ≡ length vs
insides_same p c k us xs vs ys h d e =
    let a = ended_at p c k us xs (us ++ c ∷ xs) refl d in
    let b = ended_at p c k vs ys (us ++ c ∷ xs) (sym_of h) e in
    omega (arith, a.long, b.long)
  where
    sym_of : {A : Type 0} {x y : A} → x ≡ y → y ≡ x
    sym_of q = cc

-- the same front of one list, at one length
pub record SameFront (us vs xs ys : List ℕ) : Type 0 where
  pub fronts : us ≡ vs
  pub rests : xs ≡ ys

pub same_front : (us vs xs ys : List ℕ) → us ++ xs ≡ vs ++ ys → length us ≡ length vs → SameFront us vs xs ys
same_front [] [] xs ys h k = record { fronts = refl; rests = h }
same_front [] (v ∷ vs) xs ys h k = absurd (omega arith)
same_front (u ∷ us) [] xs ys h k = absurd (omega arith)
same_front (u ∷ us) (v ∷ vs) xs ys h k =
    let e : us ++ xs ≡ vs ++ ys = cc in
    let f : u ≡ v = cc in
    let r = same_front us vs xs ys e (omega arith) in
    record { fronts = let g = r.fronts in cc; rests = r.rests }
