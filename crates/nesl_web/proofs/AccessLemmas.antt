-- Texts that are compared, and requests with one host.
use Rattle.std.proofs.Common.{◌≡◌, ℕ, ◌&&◌, ◌||◌, ◌++◌, List, [], ◌∷◌, Bool, true, false, length, map}
use Rattle.std.proofs.Common.{◌+◌, ◌<◌, cond, drop, get_or, slice_index_or, bytes_eq, refl, sym, ◌∙◌, ap, append_assoc, arith, Bor}
use Rattle.std.specs.List.{list_all, list_any}
use Rattle.std.proofs.lemmas.Bool.Decides.{Decides-eqb}
use Rattle.std.proofs.lemmas.List.Folds.{list_all-map}
use Rattle.std.proofs.lemmas.List.{drop_more, map-append}
use Rattle.std.proofs.lemmas.Slice.Eq.{bytes_eq-Decides}
use Rattle.http1.specs.Text.{eq_ignore_case}
use Rattle.httparse.specs.Spans.{header_bytes}
use Rattle.httparse.specs.declared.spans.HeaderSpan.{HeaderSpan}
use Rattle.nesl_web.specs.Access.{IsAllowed, is_known, is_of, values_of}

not_true : (b : Bool) → (b ≡ true → ⊥) → false ≡ b
not_true true never = absurd (never refl)
not_true false never = refl

-- texts that differ are distinguished
pub unequal : (xs ys : List ℕ) → (xs ≡ ys → ⊥) → false ≡ bytes_eq xs ys
unequal xs ys differs = not_true (bytes_eq xs ys) (λ same. differs ((bytes_eq-Decides xs ys).0 same))

-- texts that begin alike are the same where they go on alike
pub bytes_eq-same_front : (front xs ys : List ℕ) → bytes_eq (front ++ xs) (front ++ ys) ≡ bytes_eq xs ys
bytes_eq-same_front [] xs ys = refl
bytes_eq-same_front (b ∷ front) xs ys =
    ap (λ same. same && bytes_eq (front ++ xs) (front ++ ys)) ((Decides-eqb b b).1 refl)
    ∙ bytes_eq-same_front front xs ys

-- a test of what a map gives
pub list_any_map : {X Y : Type 0} (p : Y → Bool) (f : X → Y) (xs : List X)
    → list_any p (map f xs) ≡ list_any (λ x. p (f x)) xs
list_any_map p f [] = refl
list_any_map p f (x ∷ xs) = ap (λ rest. p (f x) || rest) (list_any_map p f xs)

-- with one host
pub one_host : (given : List (List ℕ)) (hosts origins : List (Bor (List ℕ))) (d : Bor (List ℕ)) (known all : Bool)
    → length hosts ≡ 1
    → known ≡ is_known given (slice_index_or hosts 0 d).now
    → known ≡ true
    → all ≡ list_all (λ origin. is_of (slice_index_or hosts 0 d).now origin.now) origins
    → (all ≡ true → IsAllowed given (map (λ host. host.now) hosts) (map (λ origin. origin.now) origins))
    × (IsAllowed given (map (λ host. host.now) hosts) (map (λ origin. origin.now) origins) → all ≡ true)
one_host given [] origins d known all one knows is_known_so are_so = absurd (omega (arith, one))
one_host given (host ∷ []) origins d known all one knows is_known_so are_so =
    let same = list_all-map (is_of host.now) {Y = Bor (List ℕ)} (λ origin. origin.now) origins in
    (λ yes. (sym knows ∙ is_known_so, same ∙ sym are_so ∙ yes), λ allowed. are_so ∙ sym same ∙ allowed.1)
one_host given (host ∷ other ∷ more) origins d known all one knows is_known_so are_so = absurd (omega (arith, one))

-- the values in the fields from a place on, as the first of these fields is of this name or isn't
values_of_more : (name bytes : List ℕ) (fields : List HeaderSpan) (i : ℕ) (d : HeaderSpan) (same : Bool)
    → i < length fields
    → eq_ignore_case (header_bytes bytes (get_or fields i d)).0 name ≡ same
    → values_of name (map (header_bytes bytes) (drop i fields))
    ≡ cond same ((header_bytes bytes (get_or fields i d)).1 ∷ values_of name (map (header_bytes bytes) (drop (i + 1) fields)))
    (values_of name (map (header_bytes bytes) (drop (i + 1) fields)))
values_of_more name bytes fields i d same within is_so =
    let rest = values_of name (map (header_bytes bytes) (drop (i + 1) fields)) in
    ap (λ fs. values_of name (map (header_bytes bytes) fs)) (drop_more fields i d within)
    ∙ ap (λ is. cond is ((header_bytes bytes (get_or fields i d)).1 ∷ rest) rest) is_so

-- a field with this name, whose value is added after those before it
pub values_of_named : (name bytes : List ℕ) (fields : List HeaderSpan) (i : ℕ) (d : HeaderSpan)
    (values : List (Bor (List ℕ))) (value : Bor (List ℕ)) (all : List (List ℕ))
    → i < length fields
    → eq_ignore_case (header_bytes bytes (get_or fields i d)).0 name ≡ true
    → value.now ≡ (header_bytes bytes (get_or fields i d)).1
    → all ≡ map (λ v. v.now) values ++ values_of name (map (header_bytes bytes) (drop i fields))
    → all ≡ map (λ v. v.now) (values ++ value ∷ []) ++ values_of name (map (header_bytes bytes) (drop (i + 1) fields))
values_of_named name bytes fields i d values value all within is_so is_value so_far =
    let rest = values_of name (map (header_bytes bytes) (drop (i + 1) fields)) in
    let now : Bor (List ℕ) → List ℕ = λ v. v.now in
    so_far
    ∙ ap (λ more. map now values ++ more) (values_of_more name bytes fields i d true within is_so)
    ∙ ap (λ v. map now values ++ v ∷ rest) (sym is_value)
    ∙ sym (append_assoc (map now values) (value.now ∷ []) rest)
    ∙ ap (λ front. front ++ rest) (sym (map-append now values (value ∷ [])))

-- a field of another name
pub values_of_other : (name bytes : List ℕ) (fields : List HeaderSpan) (i : ℕ) (d : HeaderSpan)
    (values : List (Bor (List ℕ))) (all : List (List ℕ))
    → i < length fields
    → eq_ignore_case (header_bytes bytes (get_or fields i d)).0 name ≡ false
    → all ≡ map (λ v. v.now) values ++ values_of name (map (header_bytes bytes) (drop i fields))
    → all ≡ map (λ v. v.now) values ++ values_of name (map (header_bytes bytes) (drop (i + 1) fields))
values_of_other name bytes fields i d values all within is_so so_far =
    let now : Bor (List ℕ) → List ℕ = λ v. v.now in
    so_far ∙ ap (λ more. map now values ++ more) (values_of_more name bytes fields i d false within is_so)
