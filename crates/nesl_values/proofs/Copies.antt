-- Copies that are on their way.
use Rattle.std.proofs.Common.{◌≡◌, ◌+◌, List, [], ◌∷◌, ◌++◌, length, map, refl, ap, sym, ◌∙◌, arith, append_assoc}
use Rattle.std.proofs.lemmas.List.{map-append, nil_from_length}
use Rattle.nesl_values.specs.Tree.{ValueTree, sequence}
use Rattle.nesl_values.specs.Parts.{elements}
use Rattle.nesl_values.specs.View.{tree_of}
use Rattle.nesl_values.specs.Copying.{around, all_around, work_around, work_above}
use Rattle.nesl_values.specs.declared.copy.Frame.{Frame}
use Rattle.nesl_values.specs.declared.value.Value.{Value}

all_around-push : {A B : Type 0} → (fs : List (Frame A B)) (f : Frame A B) (t : ValueTree) → all_around (fs ++ f ∷ []) t ≡ all_around fs (around f t)
all_around-push [] f t = refl
all_around-push (g ∷ fs) f t = ap (around g) (all_around-push fs f t)

work_above-push : {A B : Type 0} → (fs : List (Frame A B)) (f : Frame A B) → work_above (fs ++ f ∷ []) ≡ work_above fs + work_around f
work_above-push [] f = omega arith
work_above-push (g ∷ fs) f = omega (arith, work_above-push fs f)

-- one more frame below the others
pub framed : {A B : Type 0} → (fs gs : List (Frame A B)) (f : Frame A B) (t s : ValueTree) → gs ≡ fs ++ f ∷ [] → around f t ≡ s → all_around gs t ≡ all_around fs s
framed fs gs f t s push here = ap (λ hs. all_around hs t) push ∙ all_around-push fs f t ∙ ap (all_around fs) here

pub framed_work : {A B : Type 0} → (fs gs : List (Frame A B)) (f : Frame A B) → gs ≡ fs ++ f ∷ [] → work_above gs ≡ work_above fs + work_around f
framed_work fs gs f push = ap work_above push ∙ work_above-push fs f

-- a sequence by its first element and the others, before any of them is copied
pub opened : {A B : Type 0} → (t : ValueTree) (values : List (Value A)) (first : Value A) (others : List (Value A)) (copies : List (Value B)) → t ≡ sequence (elements t) → map tree_of values ≡ elements t → values ≡ first ∷ others → copies ≡ []
    → sequence (map tree_of copies ++ tree_of first ∷ map tree_of others) ≡ t
opened t values first others copies is items parts none =
    ap (λ cs. sequence (map tree_of cs ++ tree_of first ∷ map tree_of others)) none ∙ ap (λ us. sequence (map tree_of us)) (sym parts) ∙ ap sequence items ∙ sym is

-- one more element of a sequence has been copied
pub next_element : {A B : Type 0} → (old new : List (Value B)) (copy : Value B) (others rest : List (Value A)) (next : Value A) → new ≡ old ++ copy ∷ [] → others ≡ next ∷ rest
    → map tree_of new ++ tree_of next ∷ map tree_of rest ≡ map tree_of old ++ tree_of copy ∷ map tree_of others
next_element old new copy others rest next push parts =
    ap (λ us. map tree_of us ++ tree_of next ∷ map tree_of rest) push ∙ ap (λ ts. ts ++ tree_of next ∷ map tree_of rest) (map-append tree_of old (copy ∷ [])) ∙ append_assoc (map tree_of old) (tree_of copy ∷ []) (tree_of next ∷ map tree_of rest)
    ∙ ap (λ us. map tree_of old ++ tree_of copy ∷ map tree_of us) (sym parts)

-- the last element of a sequence has been copied
pub last_element : {A B : Type 0} → (old new : List (Value B)) (copy : Value B) (others : List (Value A)) → new ≡ old ++ copy ∷ [] → length others ≡ 0 → map tree_of new ≡ map tree_of old ++ tree_of copy ∷ map tree_of others
last_element old new copy others push none =
    let empty : others ≡ [] = nil_from_length others none in
    ap (map tree_of) push ∙ map-append tree_of old (copy ∷ []) ∙ ap (λ us. map tree_of old ++ tree_of copy ∷ map tree_of us) (sym empty)
