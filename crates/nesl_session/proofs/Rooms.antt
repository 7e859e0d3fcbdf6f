-- Whether there is room for a name, whatever it is called.
use Rattle.std.proofs.Common.{◌≡◌, ℕ, ◌<◌, ◌≤◌, ◌^◌, true, false, leb, subst}
use Rattle.nesl_eval_meaning.specs.Names.{Name}
use Rattle.nesl_session_bindings.specs.Meanings.{Meaning, elements_of}
use Rattle.nesl_session_bindings.specs.Known.{put_binding}
use Rattle.nesl_session_meaning.specs.State.{State}
use Rattle.nesl_session.specs.Found.{HasRoom}
use Rattle.nesl_session.proofs.Verdicts.{many, few, fits}

pub many_named : (s : State) (limit : ℕ) (n x : Name) (m : Meaning) → n ≡ x → false ≡ leb (elements_of (put_binding n m s.bindings)) limit → limit < elements_of (put_binding x m s.bindings)
many_named s limit n x m e h =
    let P : Name → Type 0 = λ y. false ≡ leb (elements_of (put_binding y m s.bindings)) limit in
    many (elements_of (put_binding x m s.bindings)) limit (subst P e h)

pub few_named : (s : State) (limit : ℕ) (n x : Name) (m : Meaning) → n ≡ x → true ≡ leb (elements_of (put_binding n m s.bindings)) limit → elements_of (put_binding x m s.bindings) ≤ limit
few_named s limit n x m e h =
    let P : Name → Type 0 = λ y. true ≡ leb (elements_of (put_binding y m s.bindings)) limit in
    few (elements_of (put_binding x m s.bindings)) limit (subst P e h)

pub room_named : (s : State) (limit : ℕ) (n x : Name) (m : Meaning) → limit < 2 ^ 64 → n ≡ x → true ≡ leb (elements_of (put_binding n m s.bindings)) limit → HasRoom s.bindings x m
room_named s limit n x m l e h =
    let P : Name → Type 0 = λ y. true ≡ leb (elements_of (put_binding y m s.bindings)) limit in
    fits (elements_of (put_binding x m s.bindings)) limit l (subst P e h)
