-- A house hears a line.
use Rattle.std.proofs.Common.{◌≡◌, ◌≢◌, ℕ, ◌<◌, ◌≤◌, ◌==◌, List, [], ◌∷◌, ◌++◌, Bool, true, false, not, Option, Some, None, length, refl, sym, ap, ◌∙◌, subst, arith, append-nil, append_assoc, cond}
use Rattle.std.proofs.lemmas.Bool.{eqb-true}
use Rattle.std.specs.List.{AllByRecursion}
use Rattle.std.specs.Str.{bytes_eq}
use Rattle.std.proofs.lemmas.Slice.Eq.{bytes_eq-Decides}
use Rattle.std.specs.Option.{option_map, is_some}
use Rattle.nesl_session_meaning.specs.State.{Log}
use Rattle.nesl_session_meaning.specs.Response.{Reply, no_user}
use Rattle.nesl_house.specs.Script.{Event, kept_events}
use Rattle.nesl_house.specs.Laws.{ScriptsFollow}
use Rattle.nesl_house.specs.Runs.{Account, roster_of, session_of, AllReplay, Runs}
use Rattle.nesl_house.proofs.Alones.{stays_none, was_none, runs_none}
use Rattle.nesl_line.specs.Lines.{with_feed}
use Rattle.nesl_line.specs.Conversation.{IsUserLine, NamesNobody, Turn, selects, stranger, nobody, says, Conversation, silence, goes_on}
use Rattle.nesl_line.specs.Steps.{chosen, NamesFit, TalkedTo, TurnsHouse}

pub missed : {T U : Type 0} (f : T → U) (o : Option T) (x : Option U) (b : Bool) → option_map f o ≡ x → is_some o ≡ not b → b ≡ true → x ≡ None
missed f None x b e i t = sym e
missed f (Some y) x true e i t = absurd (cc)
missed f (Some y) x false e i t = absurd (cc)

pub found : {T U : Type 0} (f : T → U) (o : Option T) (x : Option U) (b : Bool) → option_map f o ≡ x → is_some o ≡ not b → b ≡ false → x ≢ None
found f None x true e i t = absurd (cc)
found f None x false e i t = absurd (cc)
found f (Some y) x b e i t = λ n. let no' : Some (f y) ≡ None = e ∙ n in absurd (cc)

pub chosen_some : (name : List ℕ) → 0 < length name → chosen name ≡ Some name
chosen_some [] h = absurd (omega (arith, h))
chosen_some (b ∷ bs) h = refl

-- nothing was said to a session
silent : (house start : List Account) (before : List Event) → Runs start before house → Runs start (before ++ []) house
silent house start before r = let P : List Event → Type 0 = λ x. Runs start x house in subst P (sym (append-nil before)) r

-- a stranger gets `fault user`
pub told_no_user : (house house' : List Account) (who who' : Option (List ℕ)) (line : List ℕ) (reply : Reply) → reply ≡ no_user → TurnsHouse house house' who who' line no_user.bytes → TurnsHouse house house' who who' line reply.bytes
told_no_user house house' who who' line reply e t = let P : Reply → Type 0 = λ x. TurnsHouse house house' who who' line x.bytes in subst P (sym e) t

-- a user line of a stranger
pub turns_stranger : (house : List Account) (who : Option (List ℕ)) (items line name : List ℕ) → IsUserLine line name → session_of house name ≡ None → items ≡ [] → TurnsHouse house house who (chosen items) line no_user.bytes
turns_stranger house who items line name u n e = record {
  events = [];
  turn = let P : Option (List ℕ) → Type 0 = λ x. Turn house who line no_user.bytes [] x in subst P (sym (ap chosen e)) (stranger name u n);
  runs = silent house;
}

-- a line while nobody is selected
pub turns_nobody : (house : List Account) (items line : List ℕ) → NamesNobody line → items ≡ [] → TurnsHouse house house (chosen items) (chosen items) line no_user.bytes
turns_nobody house items line u e = record {
  events = [];
  turn = let P : Option (List ℕ) → Type 0 = λ x. Turn house (chosen items) line no_user.bytes [] x in subst P (sym (ap chosen e)) (nobody u (ap chosen e));
  runs = silent house;
}

-- a user line of a user of the house
pub turns_user : (house : List Account) (who : Option (List ℕ)) (items line name : List ℕ) → IsUserLine line name → session_of house name ≢ None → items ≡ name → TurnsHouse house house who (chosen items) line (with_feed line)
turns_user house who items line name u n e = record {
  events = [];
  turn = let P : Option (List ℕ) → Type 0 = λ x. Turn house who line (with_feed line) [] x in subst P (sym (ap chosen e ∙ chosen_some name u.some)) (selects name u n);
  runs = silent house;
}

-- a line while a user is selected
pub turns_says : ScriptsFollow → (house house' : List Account) (items user line : List ℕ) (reply : Reply) → NamesNobody line → 0 < length items → user ≡ items → Runs house (record { user = user; line = line; reply = reply } ∷ []) house'
    → TurnsHouse house house' (chosen items) (chosen items) line reply.bytes
turns_says follow house house' items user line reply u h e r = record {
  events = record { user = items; line = line; reply = reply } ∷ [];
  turn =
      let P : Option (List ℕ) → Type 0 = λ x. Turn house (chosen items) line reply.bytes (record { user = items; line = line; reply = reply } ∷ []) x in
      subst P (sym (chosen_some items h)) (says items reply u (chosen_some items h));
  runs = λ start before q.
      let P : List ℕ → Type 0 = λ x. Runs house (record { user = x; line = line; reply = reply } ∷ []) house' in
      follow start house house' before (record { user = items; line = line; reply = reply } ∷ []) q (subst P e r);
}

-- a house has the same users after a run, so a turn there is one at the start
turn_first : (start house : List Account) (before : List Event) (who who' : Option (List ℕ)) (line text : List ℕ) (events : List Event) → Runs start before house → Turn house who line text events who' → Turn start who line text events who'
turn_first start house before who who' line text events r (selects name u n) = selects name u (λ e. n (stays_none (session_of start name) (session_of house name) (kept_events name before) (r.users name) e))
turn_first start house before who who' line text events r (stranger name u n) = stranger name u (was_none (session_of start name) (session_of house name) (kept_events name before) (r.users name) n)
turn_first start house before who who' line text events r (nobody u e) = nobody u e
turn_first start house before who who' line text events r (says user reply u e) = says user reply u e

-- one line more, at the end
conversation_more : (house : List Account) (who mid next : Option (List ℕ)) (lines texts : List (List ℕ)) (events more : List Event) (line text : List ℕ) → Conversation house who lines texts events mid → Turn house mid line text more next
    → Conversation house who (lines ++ line ∷ []) (texts ++ text ∷ []) (events ++ more) next
conversation_more house who mid next lines texts events more line text (silence one) t =
    let P : List Event → Type 0 = λ x. Conversation house one (line ∷ []) (text ∷ []) x next in
    subst P (append-nil more) (goes_on one next next line text [] [] more [] t (silence next))
conversation_more house who mid next lines texts events more line text (goes_on one two last first told others answers said rest s c) t =
    let P : List Event → Type 0 = λ x. Conversation house one (first ∷ (others ++ line ∷ [])) (told ∷ (answers ++ text ∷ [])) x next in
    subst P (sym (append_assoc said rest more)) (goes_on one two next first told (others ++ line ∷ []) (answers ++ text ∷ []) said (rest ++ more) s (conversation_more house two last next others answers rest more line text c t))

-- one line more was heard
pub talked_more : (start house house' : List Account) (who who' : Option (List ℕ)) (lines texts : List (List ℕ)) (line text : List ℕ) → TurnsHouse house house' who who' line text → TalkedTo start lines texts who house
    → TalkedTo start (lines ++ line ∷ []) (texts ++ text ∷ []) who' house'
talked_more start house house' who who' lines texts line text a t =
    let c = t.0 in
    let P : Option (List ℕ) → Type 0 = λ x. Turn start x line text a.events who' in
    let turn = subst P (sym t.1) (turn_first start house c.events who who' line text a.events c.runs a.turn) in
    (record { who = who'; events = c.events ++ a.events; said = conversation_more start None c.who who' lines texts c.events a.events line text c.said turn; runs = a.runs start c.events c.runs }, refl)

-- nothing was heard yet
pub talked_none : (house : List Account) (items : List ℕ) → AllReplay house → items ≡ [] → TalkedTo house [] [] (chosen items) house
talked_none house items all e = (record { who = None; events = []; said = silence None; runs = runs_none house all }, sym (ap chosen e))

pub emptied : (items : List ℕ) (n : ℕ) (b : Bool) → n ≡ length items → b ≡ (n == 0) → b ≡ true → items ≡ []
emptied [] n b l e t = refl
emptied (x ∷ xs) n b l e t = let z : n ≡ 0 = eqb-true n 0 (sym e ∙ t) in absurd (omega (arith, l, z))

pub filled : (items : List ℕ) (n : ℕ) (b : Bool) → n ≡ length items → b ≡ (n == 0) → b ≡ false → 0 < length items
filled [] n b l e t = let z : (n == 0) ≡ true = ap (λ k. k == 0) l in let no' : true ≡ false = sym z ∙ sym e ∙ t in absurd (cc)
filled (x ∷ xs) n b l e t = omega arith

-- no name is longer than there is room for
fits_here : (b : Bool) (room : ℕ) (name user : List ℕ) (log : Log) (rest : Option Log) → bytes_eq name user ≡ b → length name ≤ room → (rest ≢ None → length user ≤ room) → cond b (Some log) rest ≢ None → length user ≤ room
fits_here true room name user log rest e f there n = let same : name ≡ user = (bytes_eq-Decides name user).0 e in let P : List ℕ → Type 0 = λ x. length x ≤ room in subst P same f
fits_here false room name user log rest e f there n = there n

pub fits_found : (room : ℕ) (house : List Account) (name : List ℕ) → NamesFit room house → session_of house name ≢ None → length name ≤ room
fits_found room [] name f n = absurd (n refl)
fits_found room (account ∷ accounts) name f n = fits_here (bytes_eq account.name name) room account.name name account.session (session_of accounts name) refl f.0 (fits_found room accounts name f.1) n

pub fits_more : (room more : ℕ) (house : List Account) → room ≤ more → NamesFit room house → NamesFit more house
fits_more room more [] h f = tt
fits_more room more (account ∷ accounts) h f = (omega (arith, h, f.0), fits_more room more accounts h f.1)

NamesFitAll : ℕ → List (List ℕ) → Type 0
NamesFitAll room names = AllByRecursion (λ name. length name ≤ room) names

fits_names : (room : ℕ) (house : List Account) → NamesFit room house → NamesFitAll room (roster_of house)
unfolding NamesFitAll
fits_names room [] f = tt
fits_names room (account ∷ accounts) f = (f.0, fits_names room accounts f.1)

names_fit : (room : ℕ) (house : List Account) → NamesFitAll room (roster_of house) → NamesFit room house
unfolding NamesFitAll
names_fit room [] f = tt
names_fit room (account ∷ accounts) f = (f.0, names_fit room accounts f.1)

-- a house has the same users after a run
pub fits_run : (room : ℕ) (house house' : List Account) (events : List Event) → Runs house events house' → NamesFit room house → NamesFit room house'
fits_run room house house' events r f = names_fit room house' (subst (NamesFitAll room) (sym r.roster) (fits_names room house f))
