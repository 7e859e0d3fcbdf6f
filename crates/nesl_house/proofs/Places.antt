-- The account of a user, and a house with another session there.
use Rattle.std.proofs.Common.{◌≡◌, ℕ, ◌+◌, ◌<◌, List, [], ◌∷◌, ◌++◌, length, Bool, true, false, cond, Option, Some, None, map, refl, sym, ap, ◌∙◌, subst, get_or, arith, zero, suc, position, take, length-take}
use Rattle.std.specs.List.{position_from}
use Rattle.std.specs.Str.{bytes_eq}
use Rattle.std.proofs.lemmas.List.Quantifiers.{position-Some}
use Rattle.std.proofs.lemmas.Iterator.Adapters.{position_from-zero}
use Rattle.std.proofs.Math.ListN.{set}
use Rattle.std.proofs.lemmas.List.{take_more}
use Rattle.std.specs.Bool.{MatchBool}
use Rattle.std.proofs.lemmas.Slice.Eq.{bytes_eq-Decides}
use Rattle.nesl_session_meaning.specs.Response.{Reply, is_memory, no_memory, no_user}
use Rattle.nesl_house.specs.declared.house.Said.{Said}
use Rattle.nesl_house.specs.Script.{Event}
use Rattle.nesl_session_meaning.specs.State.{State, Log}
use Rattle.nesl_session_meaning.specs.Solo.{Replays, SessionAnswers, Responds}
use Rattle.nesl_house.specs.Runs.{Account, roster_of, session_of, AllReplay, Runs}
use Rattle.nesl_house.specs.Laws.{ScriptsFollow}
use Rattle.nesl_house.proofs.Alones.{session_replays, runs_one, runs_stranger}
use Rattle.nesl_house.specs.Said.{events_of}

-- the user has no account before the place k, and one there
pub IsPlace : List Account → List ℕ → ℕ → Account → Type 0
IsPlace users user k d = (k < length users) × (bytes_eq (get_or users k d).name user ≡ true) × ((j : ℕ) → j < k → bytes_eq (get_or users j d).name user ≡ false)

pub is_place : (users : List Account) (user : List ℕ) (k : ℕ) (d : Account) → position (λ u. bytes_eq u.name user) users ≡ Some k → IsPlace users user k d
unfolding IsPlace
is_place users user k d e = position-Some (λ u. bytes_eq u.name user) users k d e

pub session_at : (users : List Account) (user : List ℕ) (k : ℕ) (d : Account) → IsPlace users user k d → session_of users user ≡ Some (get_or users k d).session
unfolding IsPlace
session_at [] user k d p = absurd (omega (arith, p.0))
session_at (u ∷ us) user zero d p = ap (λ b. cond b (Some u.session) (session_of us user)) p.1
session_at (u ∷ us) user (suc k) d p =
    ap (λ b. cond b (Some u.session) (session_of us user)) (p.2 zero (omega arith)) ∙ session_at us user k d (omega (arith, p.0), p.1, λ j h. p.2 (suc j) (omega arith))

pub session_set : (users : List Account) (user : List ℕ) (k : ℕ) (d w : Account) → IsPlace users user k d → w.name ≡ (get_or users k d).name → session_of (set users k w) user ≡ Some w.session
unfolding IsPlace
session_set [] user k d w p n = absurd (omega (arith, p.0))
session_set (u ∷ us) user zero d w p n = ap (λ b. cond b (Some w.session) (session_of us user)) (ap (λ x. bytes_eq x user) n ∙ p.1)
session_set (u ∷ us) user (suc k) d w p n =
    ap (λ b. cond b (Some u.session) (session_of (set us k w) user)) (p.2 zero (omega arith)) ∙ session_set us user k d w (omega (arith, p.0), p.1, λ j h. p.2 (suc j) (omega arith)) n

pub session_others : (users : List Account) (k : ℕ) (d w : Account) (v : List ℕ) → k < length users → w.name ≡ (get_or users k d).name → bytes_eq w.name v ≡ false → session_of (set users k w) v ≡ session_of users v
session_others [] k d w v h n no' = refl
session_others (u ∷ us) zero d w v h n no' =
    ap (λ b. cond b (Some w.session) (session_of us v)) no' ∙ sym (ap (λ b. cond b (Some u.session) (session_of us v)) (ap (λ x. bytes_eq x v) (sym n) ∙ no'))
session_others (u ∷ us) (suc k) d w v h n no' = ap (λ x. cond (bytes_eq u.name v) (Some u.session) x) (session_others us k d w v (omega arith) n no')

pub names_set : (users : List Account) (k : ℕ) (d w : Account) → k < length users → w.name ≡ (get_or users k d).name → roster_of (set users k w) ≡ roster_of users
names_set [] k d w h n = refl
names_set (u ∷ us) zero d w h n = ap (λ x. x ∷ map (λ (account : Account). account.name) us) n
names_set (u ∷ us) (suc k) d w h n = ap (λ x. u.name ∷ x) (names_set us k d w (omega arith) n)

pub replays_set : (users : List Account) (k : ℕ) (w : Account) → AllReplay users → (s : State) × Replays w.session s → AllReplay (set users k w)
replays_set [] k w all r = tt
replays_set (u ∷ us) zero w all r = (r, all.1)
replays_set (u ∷ us) (suc k) w all r = (all.0, replays_set us k w all.1 r)

not_here : (b : Bool) (i : Option ℕ) (k : ℕ) (log : Log) (rest : Option Log) → (i ≡ None → rest ≡ None) → cond b (Some k) i ≡ None → cond b (Some log) rest ≡ None
not_here true i k log rest f e = absurd (cc)
not_here false i k log rest f e = f e

no_session_from : (users : List Account) (user : List ℕ) (i : ℕ) → position_from (λ u. bytes_eq u.name user) i users ≡ None → session_of users user ≡ None
no_session_from [] user i e = refl
no_session_from (u ∷ us) user i e = not_here (bytes_eq u.name user) (position_from (λ u. bytes_eq u.name user) (i + 1) us) i u.session (session_of us user) (no_session_from us user (i + 1)) e

pub no_session : (users : List Account) (user : List ℕ) → position (λ u. bytes_eq u.name user) users ≡ None → session_of users user ≡ None
no_session users user e = no_session_from users user 0 (sym (position_from-zero (λ u. bytes_eq u.name user) users) ∙ e)

events_append : (xs ys : List Said) (rs ss : List Reply) → length xs ≡ length rs → events_of (xs ++ ys) (rs ++ ss) ≡ events_of xs rs ++ events_of ys ss
events_append [] ys [] ss h = refl
events_append [] ys (r ∷ rs) ss h = absurd (omega (arith, h))
events_append (x ∷ xs) ys [] ss h = absurd (omega (arith, h))
events_append (x ∷ xs) ys (r ∷ rs) ss h = ap (λ (es : List Event). record { user = x.user.items; line = x.text.items; reply = r } ∷ es) (events_append xs ys rs ss (omega (arith, h)))

-- one line more of a script
pub events_push : (script : List Said) (i : ℕ) (d : Said) (replies : List Reply) (reply : Reply) → i < length script → length replies ≡ i
    → events_of (take (i + 1) script) (replies ++ reply ∷ []) ≡ events_of (take i script) replies ++ record { user = (get_or script i d).user.items; line = (get_or script i d).text.items; reply = reply } ∷ []
events_push script i d replies reply h n =
    let short : length (take i script) ≡ length replies = omega (arith, length-take i script) in
    ap (λ xs. events_of xs (replies ++ reply ∷ [])) (take_more script i d h) ∙ events_append (take i script) (get_or script i d ∷ []) replies (reply ∷ []) short

answered_replay : (memory : Bool) (old : Log) (line : List ℕ) (reply : Reply) (new : Log) → MatchBool memory ((reply ≡ no_memory) × (new ≡ old)) (SessionAnswers old (line ∷ []) (reply ∷ []) new) → (s : State) × Replays old s → (s : State) × Replays new s
answered_replay true old line reply new a r = let P : Log → Type 0 = λ x. (s : State) × Replays x s in subst P (sym a.1) r
answered_replay false old line reply new a r = (a.after, a.ends)

-- the user of a place says a line, and has the account w afterwards
module _ (house : List Account) (users xs : List Account) (user line : List ℕ) (k : ℕ) (d w : Account) (reply : Reply) where
  there : Some k ≡ position (λ u. bytes_eq u.name user) xs → xs ≡ users → IsPlace users user k d
  there e x = is_place users user k d (ap (position (λ (u : Account). bytes_eq u.name user)) (sym x) ∙ sym e)

  had : Some k ≡ position (λ u. bytes_eq u.name user) xs → xs ≡ users → d ≡ get_or users k d → session_of users user ≡ Some d.session
  had e x g = session_at users user k d (there e x) ∙ ap (λ (u : Account). Some u.session) (sym g)

  pub said_replays : AllReplay users → Some k ≡ position (λ u. bytes_eq u.name user) xs → xs ≡ users → d ≡ get_or users k d → Responds d.session line reply w.session → AllReplay (set users k w)
  said_replays all e x g a = replays_set users k w all (answered_replay (is_memory reply) d.session line reply w.session a (session_replays users user d.session all (had e x g)))

  pub said_runs : AllReplay users → users ≡ house → Some k ≡ position (λ u. bytes_eq u.name user) xs → xs ≡ users → d ≡ get_or users k d → w.name ≡ d.name → Responds d.session line reply w.session
      → Runs house (record { user = user; line = line; reply = reply } ∷ []) (set users k w)
  unfolding IsPlace
  said_runs all h e x g m a =
      let p = there e x in
      let n : d.name ≡ (get_or users k d).name = ap (λ (u : Account). u.name) g in
      let same : d.name ≡ user = (bytes_eq-Decides d.name user).0 (ap (λ y. bytes_eq y user) n ∙ p.1) in
      let P : List Account → Type 0 = λ y. Runs y (record { user = user; line = line; reply = reply } ∷ []) (set users k w) in
      subst P h
      (runs_one users (set users k w) (record { user = user; line = line; reply = reply }) d.session w.session all (names_set users k d w p.0 (m ∙ n)) (had e x g) (session_set users user k d w p (m ∙ n))
      (λ v other. session_others users k d w v p.0 (m ∙ n) (ap (λ y. bytes_eq y v) (m ∙ same) ∙ other)) a)

pub said_stranger : (house : List Account) (users xs : List Account) (user line : List ℕ) (reply : Reply) → AllReplay users → users ≡ house → None ≡ position (λ u. bytes_eq u.name user) xs → xs ≡ users → reply ≡ no_user
    → Runs house (record { user = user; line = line; reply = reply } ∷ []) house
said_stranger house users xs user line reply all h e x a =
    let P : List Account → Type 0 = λ y. Runs y (record { user = user; line = line; reply = reply } ∷ []) y in
    subst P h (runs_stranger users (record { user = user; line = line; reply = reply }) all (no_session users user (ap (position (λ u. bytes_eq u.name user)) (sym x) ∙ sym e)) a)

pub session_found : (house : List Account) (users xs : List Account) (user : List ℕ) (k : ℕ) (d : Account) → users ≡ house → Some k ≡ position (λ u. bytes_eq u.name user) xs → xs ≡ users → d ≡ get_or users k d → Some d.session ≡ session_of house user
session_found house users xs user k d h e x g = sym (had house users xs user [] k d d no_user e x g) ∙ ap (λ s. session_of s user) h

pub session_missed : (house : List Account) (users xs : List Account) (user : List ℕ) → users ≡ house → None ≡ position (λ u. bytes_eq u.name user) xs → xs ≡ users → None ≡ session_of house user
session_missed house users xs user h e x = sym (no_session users user (ap (position (λ u. bytes_eq u.name user)) (sym x) ∙ sym e)) ∙ ap (λ s. session_of s user) h

-- one line more of a script that is run
pub run_more : ScriptsFollow → (start now next : List Account) (script : List Said) (i : ℕ) (said : Said) (replies replies' : List Reply) (reply : Reply) (user line : List ℕ) → Runs start (events_of (take i script) replies) now
    → Runs now (record { user = user; line = line; reply = reply } ∷ []) next → i < length script → length replies ≡ i → said ≡ get_or script i said → user ≡ said.user.items → line ≡ said.text.items → replies' ≡ replies ++ reply ∷ []
    → Runs start (events_of (take (i + 1) script) replies') next
run_more follow start now next script i said replies replies' reply user line p q h n s u l e =
    let P : List Event → Type 0 = λ x. Runs start x next in
    let same : Event = record { user = user; line = line; reply = reply } in
    let there : Event = record { user = (get_or script i said).user.items; line = (get_or script i said).text.items; reply = reply } in
    let one : same ≡ there = λ k. record { user = (u ∙ ap (λ (x : Said). x.user.items) s) k; line = (l ∙ ap (λ (x : Said). x.text.items) s) k; reply = reply } in
    subst P (ap (λ x. events_of (take i script) replies ++ x ∷ []) one ∙ sym (events_push script i said replies reply h n) ∙ ap (events_of (take (i + 1) script)) (sym e))
    (follow start now next (events_of (take i script) replies) (same ∷ []) p q)
