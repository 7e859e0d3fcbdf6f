-- Laws of classes.
use Rattle.std.proofs.Common.{◌↔◌, inl, inr, ℕ}
use Rattle.nesl_types.specs.declared.classes.Class.{Class}
use Rattle.nesl_types.specs.declared.classes.Class.TheVariants.{Any, Ordinal, Number, Logical}
use Rattle.nesl_types_shared.specs.Term.{Term, int, bool, char, variable, seq_of, pair_of, named}
use Rattle.nesl_types_shared.specs.Substitution.{substitute}
use Rattle.nesl_types.specs.Class.{IsMember, IsWithin, IsIn}

-- a type is in `c` where all its members are in `d`, and it is in `d`
pub IsIn-wider : (of : ℕ → Class) (c d : Class) (t : Term) → IsWithin c d → IsIn of c t → IsIn of d t
IsIn-wider of c d int p h = p int h
IsIn-wider of c d bool p h = p bool h
IsIn-wider of c d char p h = p char h
IsIn-wider of c d (variable v) p h = λ t m. p t (h t m)
IsIn-wider of c d (seq_of t) p h = p (seq_of t) h
IsIn-wider of c d (pair_of t u) p h = p (pair_of t u) h
IsIn-wider of c d (named n) p h = p (named n) h

-- a class whose types are all in another is contained in it
pub IsWithin-from_types : (c d : Class) → ((of : ℕ → Class) → (t : Term) → IsIn of c t → IsIn of d t) → IsWithin c d
IsWithin-from_types c d h = h (λ _. c) (variable 0) (λ t m. m)

-- a type stays in a class where the classes of variables get narrower
pub IsIn-narrowed : (new old : ℕ → Class) (c : Class) (t : Term) → ((v : ℕ) → IsWithin (new v) (old v)) → IsIn old c t → IsIn new c t
IsIn-narrowed new old c int m h = h
IsIn-narrowed new old c bool m h = h
IsIn-narrowed new old c char m h = h
IsIn-narrowed new old c (variable v) m h = λ t n. h t (m v t n)
IsIn-narrowed new old c (seq_of t) m h = h
IsIn-narrowed new old c (pair_of t u) m h = h
IsIn-narrowed new old c (named n) m h = h

-- no sequence or pair is in a class but `Any`, and there each is
member-seq_of : (c : Class) (t u : Term) → IsMember c (seq_of t) → IsMember c (seq_of u)
member-seq_of Any t u h = tt
member-seq_of Ordinal t u h = elim h [ inl e ↦ cc | inr e ↦ cc ]
member-seq_of Number t u h = cc
member-seq_of Logical t u h = elim h [ inl e ↦ cc | inr e ↦ cc ]

member-both : (c : Class) (t u v w : Term) → IsMember c (pair_of t u) → IsMember c (pair_of v w)
member-both Any t u v w h = tt
member-both Ordinal t u v w h = elim h [ inl e ↦ cc | inr e ↦ cc ]
member-both Number t u v w h = cc
member-both Logical t u v w h = elim h [ inl e ↦ cc | inr e ↦ cc ]

-- an instance of a type is in the type's classes
pub IsIn-substitute : (of k : ℕ → Class) (r : ℕ → Term) (c : Class) (t : Term) → IsIn of c t → ((v : ℕ) → IsIn k (of v) (r v)) → IsIn k c (substitute r t)
IsIn-substitute of k r c int h m = h
IsIn-substitute of k r c bool h m = h
IsIn-substitute of k r c char h m = h
IsIn-substitute of k r c (variable v) h m = IsIn-wider k (of v) c (r v) h (m v)
IsIn-substitute of k r c (seq_of t) h m = member-seq_of c t (substitute r t) h
IsIn-substitute of k r c (pair_of t u) h m = member-both c t u (substitute r t) (substitute r u) h
IsIn-substitute of k r c (named n) h m = h

-- a type is in the class of the common members where it is in both classes
pub IsIn-meet : (of : ℕ → Class) (c d m : Class) (t : Term) → ((u : Term) → IsMember m u ↔ (IsMember c u × IsMember d u)) → IsIn of m t ↔ (IsIn of c t × IsIn of d t)
IsIn-meet of c d m int h = h int
IsIn-meet of c d m bool h = h bool
IsIn-meet of c d m char h = h char
IsIn-meet of c d m (variable v) h = (λ g. (λ t i. ((h t).0 (g t i)).0, λ t i. ((h t).0 (g t i)).1), λ g t i. (h t).1 (g.0 t i, g.1 t i))
IsIn-meet of c d m (seq_of t) h = h (seq_of t)
IsIn-meet of c d m (pair_of t u) h = h (pair_of t u)
IsIn-meet of c d m (named n) h = h (named n)
