-- Texts of lists that grow at their end.
use Rattle.std.proofs.Common.{◌≡◌, ℕ, zero, suc, ℤ, Some, ◌+◌, ◌<◌, Bool, true, false, ◌&&◌, ◌==◌, List, [], ◌∷◌, ◌++◌, length, take, map, refl, ap, sym, ◌∙◌, append_assoc, append-nil, arith, codes, cond, slice_get, get_or, if◌then◌else◌, Global, Result, Ok, Err, OnOk}
use Rattle.std.specs.List.{list_all}
use Rattle.std.proofs.lemmas.List.Folds.{list_all-map}
use Rattle.nesl_values.specs.Parts.{list_of}
use Rattle.nesl_values.specs.View.{tree_of}
use Rattle.nesl_values.specs.declared.value.Value.{Value}
use Rattle.std.proofs.lemmas.List.{take_more, map-append}
use Rattle.std.proofs.lemmas.Bool.Decides.{nat_tests}
use Rattle.std.proofs.lemmas.Grind.{flat_map-append}
use Rattle.std.proofs.lemmas.Option.{slice_get_within, get_or_from_slice_get}
use Rattle.nesl_values.specs.Tree.{ValueTree, int, boolean, character, seq, trees_of}
use Rattle.nesl_types_shared.specs.Term.{Term}
use Rattle.nesl_reply.specs.declared.value.Task.{Task}
use Rattle.nesl_reply.specs.Values.{DatatypesByTag, value_text, later_elements_text, is_quotable, code_of, is_text_type, element_type}
use Rattle.nesl_reply.specs.Replies.{names_text}
use Rattle.nesl_reply.specs.Tasks.{IsNext, task_text, tasks_text, task_work, tasks_work, leaf_text, other_leaves, list_text, empty_text}

pub tasks_text_push : (known : DatatypesByTag) (xs : List Task) (x : Task) → tasks_text known (xs ++ x ∷ []) ≡ task_text known x ++ tasks_text known xs
tasks_text_push known [] x = simp append-nil
tasks_text_push known (y ∷ ys) x = simp (tasks_text_push known ys x, append_assoc)

pub tasks_work_push : (xs : List Task) (x : Task) → tasks_work (xs ++ x ∷ []) ≡ task_work x + tasks_work xs
tasks_work_push [] x = refl
tasks_work_push (y ∷ ys) x = omega (arith, tasks_work_push ys x)

pub others_text_push : (known : DatatypesByTag) (t : Term) (ts : List ValueTree) (v : ValueTree) → later_elements_text known t (trees_of (ts ++ v ∷ [])) ≡ later_elements_text known t (trees_of ts) ++ (codes ", " ++ value_text known true t v)
others_text_push known t [] v = simp append-nil
others_text_push known t (u ∷ us) v = simp (others_text_push known t us v, append_assoc)

pub list_of_trees_of : (ts : List ValueTree) → list_of (trees_of ts) ≡ ts
list_of_trees_of [] = refl
list_of_trees_of (t ∷ ts) = ap (λ us. t ∷ us) (list_of_trees_of ts)

integers : (known : DatatypesByTag) (t : Term) (ns : List ℤ) → later_elements_text known t (trees_of (map int ns)) ≡ other_leaves (map int ns)
integers known t [] = refl
integers known t (n ∷ ns) = simp (integers known t ns, append_assoc)

truths : (known : DatatypesByTag) (t : Term) (bs : List Bool) → later_elements_text known t (trees_of (map boolean bs)) ≡ other_leaves (map boolean bs)
truths known t [] = refl
truths known t (b ∷ bs) = simp (truths known t bs, append_assoc)

characters : (known : DatatypesByTag) (t : Term) (cs : List ℕ) → later_elements_text known t (trees_of (map character cs)) ≡ other_leaves (map character cs)
characters known t [] = refl
characters known t (c ∷ cs) = simp (characters known t cs, append_assoc)

pub codes_of_characters : (cs : List ℕ) → map code_of (map character cs) ≡ cs
codes_of_characters [] = refl
codes_of_characters (c ∷ cs) = ap (λ ds. c ∷ ds) (codes_of_characters cs)

pub all_characters : (cs : List ℕ) → list_all is_quotable (map character cs) ≡ list_all (λ c. is_quotable (character c)) cs
all_characters cs = list_all-map is_quotable character cs

pub all_trees : (vs : List (Value Global)) → list_all is_quotable (map tree_of vs) ≡ list_all (λ v. is_quotable (tree_of v)) vs
all_trees vs = list_all-map is_quotable tree_of vs

pub all_values : (vs : List (Value Global)) → list_all is_quotable (list_of (trees_of (map tree_of vs))) ≡ list_all (λ v. is_quotable (tree_of v)) vs
all_values vs = ap (list_all is_quotable) (list_of_trees_of (map tree_of vs)) ∙ all_trees vs

whenever : (b : Bool) (x y : List ℕ) → b ≡ true → cond b x y ≡ x
whenever true x y e = refl
whenever false x y e = absurd (cc e)

unless : (b : Bool) (x y : List ℕ) → b ≡ false → cond b x y ≡ y
unless true x y e = absurd (cc e)
unless false x y e = refl

never : (b : Bool) → (b && false) ≡ false
never true = refl
never false = refl

pub all_of : (cs : List ℕ) → list_all is_quotable (list_of (trees_of (map character cs))) ≡ list_all (λ c. is_quotable (character c)) cs
all_of cs = ap (list_all is_quotable) (list_of_trees_of (map character cs)) ∙ all_characters cs

codes_of : (cs : List ℕ) → map code_of (list_of (trees_of (map character cs))) ≡ cs
codes_of cs = ap (map code_of) (list_of_trees_of (map character cs)) ∙ codes_of_characters cs

-- what was written is the text of a sequence of numbers, of truth values, of characters
no_elements : (t : Term) (b : Bool) → is_text_type t ≡ b → (if b && true then codes "\"\"" else codes "[]") ≡ empty_text t
no_elements t true e = sym (whenever (is_text_type t) _ _ e)
no_elements t false e = sym (unless (is_text_type t) _ _ e)

pub integers_text : (known : DatatypesByTag) (brackets : Bool) (t : Term) (ns : List ℤ) → list_text t (map int ns) ≡ value_text known brackets t (seq (trees_of (map int ns)))
integers_text known brackets t [] = sym (no_elements t (is_text_type t) refl)
integers_text known brackets t (n ∷ ns) = sym (unless (is_text_type t && false) _ _ (never (is_text_type t)) ∙ ap (λ z. codes "[" ++ leaf_text (int n) ++ z ++ codes "]") (integers known (element_type t) ns))

pub truths_text : (known : DatatypesByTag) (brackets : Bool) (t : Term) (bs : List Bool) → list_text t (map boolean bs) ≡ value_text known brackets t (seq (trees_of (map boolean bs)))
truths_text known brackets t [] = sym (no_elements t (is_text_type t) refl)
truths_text known brackets t (b ∷ bs) = sym (unless (is_text_type t && false) _ _ (never (is_text_type t)) ∙ ap (λ z. codes "[" ++ leaf_text (boolean b) ++ z ++ codes "]") (truths known (element_type t) bs))

pub characters_text : (known : DatatypesByTag) (brackets : Bool) (t : Term) (cs : List ℕ) → (is_text_type t && list_all is_quotable (list_of (trees_of (map character cs)))) ≡ false → list_text t (map character cs) ≡ value_text known brackets t (seq (trees_of (map character cs)))
characters_text known brackets t [] h = sym (no_elements t (is_text_type t) refl)
characters_text known brackets t (c ∷ cs) h = sym (unless (is_text_type t && list_all is_quotable (list_of (trees_of (map character (c ∷ cs))))) _ _ h ∙ ap (λ z. codes "[" ++ leaf_text (character c) ++ z ++ codes "]") (characters known (element_type t) cs))

pub quoted_text : (known : DatatypesByTag) (brackets : Bool) (t : Term) (cs : List ℕ) → (is_text_type t && list_all is_quotable (list_of (trees_of (map character cs)))) ≡ true → codes "\"" ++ cs ++ codes "\"" ≡ value_text known brackets t (seq (trees_of (map character cs)))
quoted_text known brackets t cs h = sym (whenever (is_text_type t && list_all is_quotable (list_of (trees_of (map character cs)))) _ _ h ∙ ap (λ z. codes "\"" ++ z ++ codes "\"") (codes_of cs))

pub between : (o p q r bs : List ℕ) → p ≡ o ++ 34 ∷ [] → q ≡ p ++ bs → r ≡ q ++ 34 ∷ [] → r ≡ o ++ 34 ∷ (bs ++ 34 ∷ [])
between o p q r bs e f g = simp (g, f, e, append_assoc)

-- one name more
name_step : (m n : List ℕ) (ms : List (List ℕ)) → names_text (m ∷ (ms ++ n ∷ [])) ≡ names_text (m ∷ ms) ++ (codes ", " ++ n)
name_step m n ms = simp (flat_map-append, append_assoc, append-nil)

pub names_more : (ns : List (List ℕ)) (i : ℕ) (n : List ℕ) → Some n ≡ slice_get ns i → names_text (take (i + 1) ns) ≡ names_text (take i ns) ++ ((if i == 0 then codes " " else codes ", ") ++ n)
names_more [] i n e = absurd (cc e)
names_more (m ∷ ms) zero n e = let same : m ≡ n = cc e in ap (λ z. codes " " ++ z) (append-nil m ∙ same)
names_more (m ∷ ms) (suc j) n e =
    let inside : suc j < length (m ∷ ms) = slice_get_within (m ∷ ms) (suc j) n (sym e) in
    let longer : take (suc j + 1) (m ∷ ms) ≡ take (suc j) (m ∷ ms) ++ n ∷ [] = take_more (m ∷ ms) (suc j) n inside ∙ ap (λ x. take (suc j) (m ∷ ms) ++ x ∷ []) (get_or_from_slice_get (m ∷ ms) (suc j) n n (sym e)) in
    let later : false ≡ (suc j == 0) = grind (arith, nat_tests) in
    ap names_text longer ∙ name_step m n (take j ms) ∙ ap (λ b. names_text (m ∷ take j ms) ++ ((if b then codes " " else codes ", ") ++ n)) later

pub names_written : (os ps qs rs bs : List ℕ) (ns : List (List ℕ)) (i : ℕ) (n : List ℕ) → Some n ≡ slice_get ns i → bs ≡ (if i == 0 then codes " " else codes ", ") → ps ≡ os ++ names_text (take i ns) → qs ≡ ps ++ bs → rs ≡ qs ++ n → rs ≡ os ++ names_text (take (i + 1) ns)
names_written os ps qs rs bs ns i n e b f g h =
    let wrote : rs ≡ os ++ (names_text (take i ns) ++ (bs ++ n)) = simp (h, g, f, append_assoc) in
    wrote ∙ ap (λ x. os ++ (names_text (take i ns) ++ (x ++ n))) b ∙ ap (λ x. os ++ x) (sym (names_more ns i n e))

-- four pieces, one after another
pub four_written : (o p q r s a b c d : List ℕ) → p ≡ o ++ a → q ≡ p ++ b → r ≡ q ++ c → s ≡ r ++ d → s ≡ o ++ (a ++ b ++ c ++ d)
four_written o p q r s a b c d e f g h = simp (h, g, f, e, append_assoc)

-- a value was written, and the rest is to follow
pub front_written : (o p : List ℕ) (known : DatatypesByTag) (brackets : Bool) (t : Term) (u v : ValueTree) (ts : List ℕ) → u ≡ v → p ≡ o ++ value_text known brackets t u → p ++ ts ≡ o ++ (value_text known brackets t v ++ ts)
front_written o p known brackets t u v ts e f = ap (λ x. x ++ ts) (f ∙ ap (λ w. o ++ value_text known brackets t w) e) ∙ append_assoc o (value_text known brackets t v) ts

-- a task comes before others, which are few enough
pub less_after : {E : Type 0} → (r : Result Unit E) (x : Task) (ys xs zs : List Task) (m n : ℕ) → OnOk r (IsNext x ys xs) → tasks_work xs ≡ m + tasks_work zs → task_work x + m < n → OnOk r (tasks_work ys < n + tasks_work zs)
less_after (Ok u) x ys xs zs m n h work less = omega (arith, h.work)
less_after (Err e) x ys xs zs m n h work less = tt

-- a value was written where another is read, of another type: both are the same
pub same_written : (o p : List ℕ) (known : DatatypesByTag) (brackets : Bool) (t u : Term) (x y : ValueTree) → t ≡ u → x ≡ y → p ≡ o ++ value_text known brackets t x → p ≡ o ++ value_text known brackets u y
same_written o p known brackets t u x y e f h = h ∙ ap (λ s. o ++ value_text known brackets s x) e ∙ ap (λ z. o ++ value_text known brackets u z) f

-- one element more was written, after a comma
pub element_written : (known : DatatypesByTag) (t u : Term) (vs : List (Value Global)) (i : ℕ) (v : Value Global) (o p q r : List ℕ) → i < length vs → v ≡ get_or vs i v → u ≡ t → p ≡ o ++ later_elements_text known t (trees_of (map tree_of (take i vs))) → q ≡ p ++ codes ", " → r ≡ q ++ value_text known true u (tree_of v) → r ≡ o ++ later_elements_text known t (trees_of (map tree_of (take (i + 1) vs)))
element_written known t u vs i v o p q r l e same f g h =
    let longer : take (i + 1) vs ≡ take i vs ++ v ∷ [] = take_more vs i v l ∙ ap (λ y. take i vs ++ y ∷ []) (sym e) in
    let trees : map tree_of (take (i + 1) vs) ≡ map tree_of (take i vs) ++ tree_of v ∷ [] = ap (map tree_of) longer ∙ map-append tree_of (take i vs) (v ∷ []) in
    let before : List ℕ = later_elements_text known t (trees_of (map tree_of (take i vs))) in
    let text : List ℕ = value_text known true t (tree_of v) in
    let more : later_elements_text known t (trees_of (map tree_of (take (i + 1) vs))) ≡ before ++ (codes ", " ++ text) = ap (λ ts. later_elements_text known t (trees_of ts)) trees ∙ others_text_push known t (map tree_of (take i vs)) (tree_of v) in
    let wrote : r ≡ q ++ text = h ∙ ap (λ s. q ++ value_text known true s (tree_of v)) same in
    let all : r ≡ o ++ (before ++ (codes ", " ++ text)) = wrote ∙ ap (λ z. z ++ text) (g ∙ ap (λ z. z ++ codes ", ") f) ∙ append_assoc (o ++ before) (codes ", ") text ∙ append_assoc o before (codes ", " ++ text) in
    all ∙ ap (λ z. o ++ z) (sym more)
