-- Why a run fails.
use Rattle.std.proofs.Common.{◌≡◌, ℕ, Bool, true, false, List, [], ◌∷◌, ◌++◌, Option, Some, None, length, map, slice_get, option_map, refl, sym, ap, ◌∙◌, subst}
use Rattle.std.specs.Prelude.{IfSome}
use Rattle.std.proofs.lemmas.Option.{slice_get-map}
use Rattle.std.specs.Io.KnownBytes.{Consumes, Appends}
use Rattle.nesl_house.specs.declared.roster.NewFault.TheVariants.{Name, Twice}
use Rattle.nesl_house.specs.Roster.{IsRoster, IsRefused, bad_name, stands_twice, new_house}
use Rattle.nesl_house.specs.Runs.{Account}
use Rattle.nesl_line.specs.declared.exchange.End.{End}
use Rattle.nesl_line.specs.declared.exchange.End.TheVariants.{Input, ReadFault, WriteFault, NoMemory}
use Rattle.nesl_line.proofs.Bytes.{consumes_none, appends_none}
use Rattle.nesl_cli.specs.declared.failure.Failure.{Failure}
use Rattle.nesl_cli.specs.Failures.{failure_of}
use Rattle.nesl_session_meaning.specs.declared.limits.Limits.{Limits}
use Rattle.nesl_cli.specs.Program.{Batched, Served, Untouched, IsBlamed, BatchFails}

pub untouched : (left held : Option (List ℕ)) → Untouched left left held held
untouched left held = (consumes_none left, appends_none held)

at_before : (before after : List (List ℕ)) (it : List ℕ) → slice_get (before ++ it ∷ after) (length before) ≡ Some it
at_before [] after it = refl
at_before (x ∷ xs) after it = at_before xs after it

pub name_at_place : (names : List (List ℕ)) (place : ℕ) → IsRefused names (Name place) → (it : List ℕ) × (slice_get names place ≡ Some it)
name_at_place names place (bad_name before after it n e u b) = (it, ap (λ x. slice_get x (length before)) e ∙ at_before before after it)

pub twice_at_place : (names : List (List ℕ)) (place : ℕ) → IsRefused names (Twice place) → (it : List ℕ) × (slice_get names place ≡ Some it)
twice_at_place names place (stands_twice before after it n e u b t) = (it, ap (λ x. slice_get x (length before)) e ∙ at_before before after it)

named_there : {A : Type 0} (f : A → List ℕ) (o : Option A) (it : List ℕ) (named : A) → option_map f o ≡ Some it → IfSome o (λ user. named ≡ user) → option_map f o ≡ Some (f named)
named_there f None it named e h = absurd (cc)
named_there f (Some user) it named e h = ap (λ x. Some (f x)) (sym h)

-- the user at the place is blamed
pub blamed : {A : Type 0} (f : A → List ℕ) (users : List A) (place : ℕ) (named : A) (RefusedAt : ℕ → Type 0) → RefusedAt place → (it : List ℕ) × (slice_get (map f users) place ≡ Some it) → IfSome (slice_get users place) (λ user. named ≡ user) → IsBlamed RefusedAt (map f users) (f named)
blamed f users place named RefusedAt r at h = let m = slice_get-map f users place in (place, r, m ∙ named_there f (slice_get users place) at.0 named (sym m ∙ at.1) h)

nothing_done : (left left' held held' : Option (List ℕ)) (read written : List ℕ) → Consumes left left' read → Appends held held' written → read ≡ [] → written ≡ [] → Untouched left left' held held'
nothing_done left left' held held' read written c a r w =
    let P : List ℕ → Type 0 = λ x. Consumes left left' x in
    let Q : List ℕ → Type 0 = λ x. Appends held held' x in
    (subst P r c, subst Q w a)

-- a batch ran to its end
pub served : (is_hinted : Bool) (end : End) (count : ℕ) (bounds : Limits) (users : List (List ℕ)) (left left' held held' : Option (List ℕ)) (house house' : List Account) → IsRoster users → house ≡ new_house bounds users → Batched is_hinted end count left left' held held' house house'
    → None ≡ failure_of end → Served is_hinted Input bounds users left left' held held'
served is_hinted Input count bounds users left left' held held' house house' r o b e = let P : List Account → Type 0 = λ x. Batched is_hinted Input count left left' held held' x house' in (r, (count, (house', subst P o b)))
served is_hinted ReadFault count bounds users left left' held held' house house' r o b e = absurd (cc)
served is_hinted WriteFault count bounds users left left' held held' house house' r o b e = absurd (cc)
served is_hinted NoMemory count bounds users left left' held held' house house' r o b e = absurd (cc)

failed_as : (is_hinted : Bool) (failure other : Failure) (bounds : Limits) (users : List (List ℕ)) (left left' held held' : Option (List ℕ)) → Some failure ≡ Some other → BatchFails other is_hinted bounds users left left' held held' → BatchFails failure is_hinted bounds users left left' held held'
failed_as is_hinted failure other bounds users left left' held held' e f =
    let same : failure ≡ other = cc in
    let P : Failure → Type 0 = λ x. BatchFails x is_hinted bounds users left left' held held' in
    subst P (sym same) f

-- a batch for which there was no memory
unread : (is_hinted : Bool) (count : ℕ) (left left' held held' : Option (List ℕ)) (house house' : List Account) → Batched is_hinted NoMemory count left left' held held' house house' → Untouched left left' held held'
unread false count left left' held held' house house' b = nothing_done left left' held held' b.passed.read b.passed.written b.consumed b.appended b.ended.0 b.ended.2
unread true count left left' held held' house house' b = nothing_done left left' held held' b.passed.read b.passed.written b.consumed b.appended b.ended.0 b.ended.2

-- a batch failed
pub failed : (is_hinted : Bool) (end : End) (failure : Failure) (count : ℕ) (bounds : Limits) (users : List (List ℕ)) (left left' held held' : Option (List ℕ)) (house house' : List Account) → IsRoster users → house ≡ new_house bounds users → Batched is_hinted end count left left' held held' house house'
    → Some failure ≡ failure_of end → BatchFails failure is_hinted bounds users left left' held held'
failed is_hinted Input failure count bounds users left left' held held' house house' r o b e = absurd (cc)
failed is_hinted ReadFault failure count bounds users left left' held held' house house' r o b e =
    let P : List Account → Type 0 = λ x. Batched is_hinted ReadFault count left left' held held' x house' in failed_as is_hinted failure _ bounds users left left' held held' e (r, (count, (house', subst P o b)))
failed is_hinted WriteFault failure count bounds users left left' held held' house house' r o b e =
    let P : List Account → Type 0 = λ x. Batched is_hinted WriteFault count left left' held held' x house' in failed_as is_hinted failure _ bounds users left left' held held' e (r, (count, (house', subst P o b)))
failed is_hinted NoMemory failure count bounds users left left' held held' house house' r o b e = failed_as is_hinted failure _ bounds users left left' held held' e (unread is_hinted count left left' held held' house house' b)
