-- Stores one behind another.
use Rattle.std.proofs.Common.{◌≡◌, ◌∙◌, ap, sym, refl, subst, inl, inr, ℕ, ◌+◌, ◌<◌, ◌≤◌, List, [], ◌∷◌, ◌++◌, append_assoc, length, take, drop, get_or, map, Bool, true, Option, Result, Ok, Err, arith}
use Rattle.std.proofs.lemmas.List.{take-append-drop, drop_more, take_more, map-append}
use Rattle.pfr_shelf.specs.Failures.{Failure}
use Rattle.pfr_shelf.specs.Files.{Files, put_file}
use Rattle.pfr.specs.Making.{StoredFile}
use Rattle.pfr.specs.Makes.{StopsAt, put_all}
use Rattle.pfr.specs.MakesInside.{RefusesStores, Stores, names_of}
use Rattle.pfr.specs.Storing.{IsBlamedStore}
use Rattle.pfr.specs.declared.status.Role.{Role}
use Rattle.pfr.specs.declared.status.Status.{Status}
use Rattle.pfr.specs.declared.status.Status.TheVariants.{Done, Usage, BadInput, TooLong, ReadFault, WriteFault, StoreFault, NoMemory}

-- ---- files stored, and more behind them
put_all-append : (xs ys : List StoredFile) (files : Files) → put_all (xs ++ ys) files ≡ put_all ys (put_all xs files)
put_all-append [] ys files = refl
put_all-append (x ∷ xs) ys files = put_all-append xs ys (put_file files x.name x.bytes)

stops_among : (file : Role) (xs ys : List StoredFile) (old new : Files) → StopsAt file xs old new → StopsAt file (xs ++ ys) old new
stops_among file [] ys old new s = absurd s
stops_among file (x ∷ xs) ys old new s = elim s [ inl here ↦ inl here | inr later ↦ inr (stops_among file xs ys (put_file old x.name x.bytes) new later) ]

stops_behind : (file : Role) (xs ys : List StoredFile) (old new : Files) → StopsAt file ys (put_all xs old) new → StopsAt file (xs ++ ys) old new
stops_behind file [] ys old new s = s
stops_behind file (x ∷ xs) ys old new s = inr (stops_behind file xs ys (put_file old x.name x.bytes) new s)

blamed_among : (file : Role) (xs ys : List StoredFile) (failed : Option Failure) → IsBlamedStore file (names_of xs) failed → IsBlamedStore file (names_of (xs ++ ys)) failed
blamed_among file [] ys failed b = absurd b
blamed_among file (x ∷ xs) ys failed b = elim b [ inl here ↦ inl here | inr later ↦ inr (blamed_among file xs ys failed later) ]

blamed_behind : (file : Role) (xs ys : List StoredFile) (failed : Option Failure) → IsBlamedStore file (names_of ys) failed → IsBlamedStore file (names_of (xs ++ ys)) failed
blamed_behind file [] ys failed b = b
blamed_behind file (x ∷ xs) ys failed b = inr (blamed_behind file xs ys failed b)

refuses_among : (tells : Bool) (xs ys : List StoredFile) (old new : Files) (before after : ℕ) (failed : Option Failure) (status : Status) → RefusesStores tells old new before after failed xs status
    → RefusesStores tells old new before after failed (xs ++ ys) status
refuses_among tells xs ys old new before after failed (StoreFault file) r =
    (r.0, blamed_among file xs ys failed r.1, λ told. stops_among file xs ys old new (r.2 told))
refuses_among tells xs ys old new before after failed NoMemory r = λ told. ((r told).0, stops_among (r told).0 xs ys old new (r told).1)
refuses_among tells xs ys old new before after failed Done r = absurd r
refuses_among tells xs ys old new before after failed Usage r = absurd r
refuses_among tells xs ys old new before after failed (BadInput file place why) r = absurd r
refuses_among tells xs ys old new before after failed (TooLong file) r = absurd r
refuses_among tells xs ys old new before after failed (ReadFault file) r = absurd r
refuses_among tells xs ys old new before after failed WriteFault r = absurd r

refuses_behind : (tells : Bool) (xs ys : List StoredFile) (old mid new : Files) (before between after : ℕ) (failed : Option Failure) (status : Status) → (tells ≡ true → mid ≡ put_all xs old) → before ≤ between
    → RefusesStores tells mid new between after failed ys status → RefusesStores tells old new before after failed (xs ++ ys) status
refuses_behind tells xs ys old mid new before between after failed (StoreFault file) stored h r = (
  let rose = r.0 in omega arith,
  blamed_behind file xs ys failed r.1,
  λ told. stops_behind file xs ys old new (subst (λ (f : Files). StopsAt file ys f new) (stored told) (r.2 told)),
)
refuses_behind tells xs ys old mid new before between after failed NoMemory stored h r =
    λ told. ((r told).0, stops_behind (r told).0 xs ys old new (subst (λ (f : Files). StopsAt (r told).0 ys f new) (stored told) (r told).1))
refuses_behind tells xs ys old mid new before between after failed Done stored h r = absurd r
refuses_behind tells xs ys old mid new before between after failed Usage stored h r = absurd r
refuses_behind tells xs ys old mid new before between after failed (BadInput file place why) stored h r = absurd r
refuses_behind tells xs ys old mid new before between after failed (TooLong file) stored h r = absurd r
refuses_behind tells xs ys old mid new before between after failed (ReadFault file) stored h r = absurd r
refuses_behind tells xs ys old mid new before between after failed WriteFault stored h r = absurd r

-- ---- stores, and more behind them
-- the first stores stopped
stores_stop : {S T U : Type 0} (tells : Bool) (files : S → Files) (faults : S → ℕ) (failed : S → Option Failure) (old new : S) (first rest : List StoredFile) (status : Status) → Stores {T = T} tells files faults failed old new first (Err status)
    → Stores {T = U} tells files faults failed old new (first ++ rest) (Err status)
stores_stop tells files faults failed old new first rest status s = record {
  ok = tt;
  err = refuses_among tells first rest (files old) (files new) (faults old) (faults new) (failed new) status s.err;
  later = s.later;
}

-- the first stores were done
stores_then : {S T U : Type 0} (tells : Bool) (files : S → Files) (faults : S → ℕ) (failed : S → Option Failure) (old mid new : S) (first rest : List StoredFile) (x : T) (result : Result U Status) → Stores tells files faults failed old mid first (Ok x)
    → Stores tells files faults failed mid new rest result → Stores tells files faults failed old new (first ++ rest) result
stores_then tells files faults failed old mid new first rest x (Ok y) a b = record {
  ok = λ told. b.ok told ∙ (ap (put_all rest) (a.ok told) ∙ sym (put_all-append first rest (files old)));
  err = tt;
  later = let h = a.later in let k = b.later in omega arith;
}
stores_then tells files faults failed old mid new first rest x (Err status) a b = record {
  ok = tt;
  err = refuses_behind tells first rest (files old) (files mid) (files new) (faults old) (faults mid) (faults new) (failed new) status a.ok a.later b.err;
  later = let h = a.later in let k = b.later in omega arith;
}

-- ---- the steps of a loop
-- one more was stored
pub stores_more : {X S T U V : Type 0} (tells : Bool) (files : S → Files) (faults : S → ℕ) (failed : S → Option Failure) (old mid new : S) (f : X → StoredFile) (xs : List X) (i : ℕ) (d : X) (x : T) (y : U) (z : V) → i < length xs
    → Stores tells files faults failed old mid (map f (take i xs)) (Ok x) → Stores tells files faults failed mid new (f (get_or xs i d) ∷ []) (Ok y)
    → Stores tells files faults failed old new (map f (take (i + 1) xs)) (Ok z)
stores_more tells files faults failed old mid new f xs i d x y z h a b =
    let longer : map f (take (i + 1) xs) ≡ map f (take i xs) ++ f (get_or xs i d) ∷ [] = ap (map f) (take_more xs i d h) ∙ map-append f (take i xs) (get_or xs i d ∷ []) in
    let c = stores_then tells files faults failed old mid new (map f (take i xs)) (f (get_or xs i d) ∷ []) x (Ok y) a b in
    rw longer (record { ok = c.ok; err = tt; later = c.later })

-- one was not stored
pub stores_end : {X S T U V : Type 0} (tells : Bool) (files : S → Files) (faults : S → ℕ) (failed : S → Option Failure) (old mid new : S) (f : X → StoredFile) (xs : List X) (i : ℕ) (d : X) (x : T) (status : Status) → i < length xs
    → Stores tells files faults failed old mid (map f (take i xs)) (Ok x) → Stores {T = U} tells files faults failed mid new (f (get_or xs i d) ∷ []) (Err status)
    → Stores {T = V} tells files faults failed old new (map f xs) (Err status)
stores_end {U = U} tells files faults failed old mid new f xs i d x status h a b =
    let parts : map f xs ≡ (map f (take i xs) ++ f (get_or xs i d) ∷ []) ++ map f (drop (i + 1) xs) =
    ap (map f) (sym (take-append-drop i xs) ∙ ap (λ r. take i xs ++ r) (drop_more xs i d h))
    ∙ (map-append f (take i xs) (get_or xs i d ∷ drop (i + 1) xs) ∙ sym (append_assoc (map f (take i xs)) (f (get_or xs i d) ∷ []) (map f (drop (i + 1) xs)))) in
    rw parts (stores_stop {T = U} tells files faults failed old new (map f (take i xs) ++ f (get_or xs i d) ∷ []) (map f (drop (i + 1) xs)) status
    (stores_then {U = U} tells files faults failed old mid new (map f (take i xs)) (f (get_or xs i d) ∷ []) x (Err status) a b))
