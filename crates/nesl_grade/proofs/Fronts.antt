-- Fronts of texts, and names of faults.
use Rattle.std.proofs.Common.{◌≡◌, ◌≢◌, ◌<◌, ℕ, List, ◌++◌, length, take, sym, ap, ◌∙◌, codes}
use Rattle.std.proofs.Math.Seq.{take-append_seam}
use Rattle.std.proofs.lemmas.List.{append_cancel_left}
use Rattle.nesl_grade.specs.Outcomes.{IsFaultNamed}

-- a text that begins otherwise
pub other_head : (text front head : List ℕ) → head ≡ take (length front) text → head ≢ front
    → (rest : List ℕ) → ¬ (text ≡ front ++ rest)
other_head text front head e other rest f = other (e ∙ ap (take (length front)) f ∙ take-append_seam front rest)

-- a reply that is a fault of a name
pub named : (reply name rest end more : List ℕ) → reply ≡ codes "fault " ++ rest → rest ≡ name ++ end
    → end ≡ codes " " ++ more → IsFaultNamed name reply
named reply name rest end more e f g = (more, e ∙ ap (λ x. codes "fault " ++ x) (f ∙ ap (λ x. name ++ x) g))

-- and one of a longer name
pub longer_name : (reply name rest end : List ℕ) → reply ≡ codes "fault " ++ rest → rest ≡ name ++ end
    → ((r : List ℕ) → ¬ (end ≡ codes " " ++ r)) → ¬ IsFaultNamed name reply
longer_name reply name rest end e f none h =
    let tail = append_cancel_left (codes "fault ") rest (name ++ (codes " " ++ h.0)) (sym e ∙ h.1) in
    none h.0 (append_cancel_left name end (codes " " ++ h.0) (sym f ∙ tail))
