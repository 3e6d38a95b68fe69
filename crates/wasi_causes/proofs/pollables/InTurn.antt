-- The looks of a wait for several pollables: one after another, at each that wasn't looked at before.
use Rattle.wasi_causes.proofs.Words.{◌≡◌, ◌∙◌, ◌==◌, ℕ, Bool, true, false, if◌then◌else◌, List, [], ◌∷◌, ◌++◌, append-nil, append_assoc, Option, Some, None, is_some, Result, Ok, Err, refl, sym, subst, ap, inl, inr, eqb-true, Entry, Machine, NoSuchHandle, Stop, Trap, kind_at, watch_of}
use Rattle.wasi_world.specs.declared.ids.Ids.{Ids}
use Rattle.wasi_host.specs.declared.polling.Look.{Look}
use Rattle.wasi_host.specs.Polling.{Found, found_of, ids_after_look, look_each, look_once, looked_at}
use Rattle.wasi_walks.specs.Missing.{MissesOneOf, MissesWatched}
use Rattle.wasi_causes.proofs.pollables.Looks.{FindRow, LookKeeps, find_facts, keeps_same, keeps_then, missed_before, missed_one}
use Rattle.wasi_causes.proofs.tables.Meets.{After, Meets, Rows, chain, ends, shifted, widen}
use Rattle.wasi_causes.specs.PollableCalls.{LooksInTurn, NoMore, OneMore, is_among, not_among}

-- == which were looked at before
abbrev pub AreFound : List ℕ → Found → Type 0
AreFound before found = (p : ℕ) → is_among before p ≡ is_some (found_of found p)

one_more : (found : Found) (q : ℕ) (ready : Bool) (p : ℕ) → is_some (found_of (found ++ (q, ready) ∷ []) p) ≡ (if q == p then true else is_some (found_of found p))
one_more [] q ready p = by (q == p)
  where
    by : (b : Bool) → is_some (if b then Some ready else None) ≡ (if b then true else false)
    by true = refl
    by false = refl
one_more (f ∷ found) q ready p = by (f.0 == p) (q == p) (one_more found q ready p)
  where
    rest : Option Bool
    rest = found_of (found ++ (q, ready) ∷ []) p

    was : Option Bool
    was = found_of found p

    by : (b c : Bool) → is_some rest ≡ (if c then true else is_some was) → is_some (if b then Some f.1 else rest) ≡ (if c then true else is_some (if b then Some f.1 else was))
    by true true k = refl
    by true false k = refl
    by false c k = k

found_more : (before : List ℕ) (found : Found) (q : ℕ) (ready : Bool) → AreFound before found → AreFound (q ∷ before) (found ++ (q, ready) ∷ [])
found_more before found q ready same p = ap (λ (x : Bool). if q == p then true else x) (same p) ∙ sym (one_more found q ready p)

-- == what comes of them
module _ (look : Look) where
  -- Each of these was looked at, but for those before.
  pub record AllLooked (m : Machine) (ids : Ids) (before : List ℕ) (found : Found) (ps : List ℕ) (es : List Entry) (all : Found) (after : Machine) : Type 0 where
    pub more : Found
    pub all_is : all ≡ found ++ more
    pub looks : LooksInTurn look m ids (not_among before ps) es more after
    pub keeps : LookKeeps m after
    pub there : ((p : ℕ) → is_among before p ≡ true → MissesWatched m (watch_of (kind_at m.table p)) → ⊥) → MissesOneOf after ps → ⊥

  -- What one of them watches isn't there.
  pub record OneMissed (m : Machine) (ids : Ids) (before : List ℕ) (ps : List ℕ) (es : List Entry) (after : Machine) : Type 0 where
    pub front : List ℕ
    pub others : List ℕ
    pub one : ℕ
    pub found : Found
    pub cut : not_among before ps ≡ front ++ one ∷ others
    pub looks : LooksInTurn look m ids front es found after
    pub keeps : LookKeeps m after
    pub misses : MissesWatched after (watch_of (kind_at after.table one))
    pub among : MissesOneOf m ps

  abbrev pub TurnRow : Machine → Ids → List ℕ → Found → List ℕ → Rows (Result Found Stop × Machine)
  TurnRow m ids before found ps es (Ok all, after) = AllLooked m ids before found ps es all after
  TurnRow m ids before found ps es (Err (Trap NoSuchHandle), after) = OneMissed m ids before ps es after
  TurnRow m ids before found ps es (Err _, after) = ⊥

  -- the first of them was looked at before
  module _ (m : Machine) (ids : Ids) (before : List ℕ) (found : Found) (p : ℕ) (ps : List ℕ) where
    module _ (was : is_among before p ≡ true) where
      not_again : not_among before (p ∷ ps) ≡ not_among before ps
      not_again = ap (λ (b : Bool). if b then not_among before ps else p ∷ not_among (p ∷ before) ps) was

      passed : (es : List Entry) (done : Result Found Stop × Machine) → TurnRow m ids before found ps es done → TurnRow m ids before found (p ∷ ps) es done
      passed es (Ok all, after) k = record {
        more = k.more;
        all_is = k.all_is;
        looks = subst (λ (qs : List ℕ). LooksInTurn look m ids qs es k.more after) (sym not_again) k.looks;
        keeps = k.keeps;
        there = λ known missing. elim missing [ inl none ↦ known p was (missed_before m after k.keeps.there k.keeps.table p none) | inr none ↦ k.there known none ];
      }
      passed es (Err (Trap NoSuchHandle), after) k = record { front = k.front; others = k.others; one = k.one; found = k.found; cut = not_again ∙ k.cut; looks = k.looks; keeps = k.keeps; misses = k.misses; among = inr k.among }
      passed es (Err _, after) k = absurd k

    -- or it wasn't
    module _ (was : is_among before p ≡ false) where
      first_now : not_among before (p ∷ ps) ≡ p ∷ not_among (p ∷ before) ps
      first_now = ap (λ (b : Bool). if b then not_among before ps else p ∷ not_among (p ∷ before) ps) was

      module _ (es : List Entry) (ready : Bool) (mid : Machine) (k : FindRow m ids p look es (Ok ready, mid)) where
        known_still : ((q : ℕ) → is_among before q ≡ true → MissesWatched m (watch_of (kind_at m.table q)) → ⊥) → (q : ℕ) → is_among (p ∷ before) q ≡ true → MissesWatched mid (watch_of (kind_at mid.table q)) → ⊥
        known_still known q among none = by (p == q) refl among
          where
            before_it : MissesWatched m (watch_of (kind_at m.table q))
            before_it = missed_before m mid k.1.there k.1.table q none

            by : (b : Bool) → (p == q) ≡ b → (if b then true else is_among before q) ≡ true → ⊥
            by true e h = k.2 (subst (λ (i : ℕ). MissesWatched m (watch_of (kind_at m.table i))) (sym (eqb-true p q e)) before_it)
            by false e h = known q h before_it

        looked_so : (gs : List Entry) (done : Result Found Stop × Machine) → After (TurnRow mid (ids_after_look look m ids p) (p ∷ before) (found ++ (p, ready) ∷ []) ps) es gs done → TurnRow m ids before found (p ∷ ps) gs done
        looked_so gs (Ok all, after) a = let row = a.row in record {
          more = (p, ready) ∷ row.more;
          all_is = row.all_is ∙ append_assoc found ((p, ready) ∷ []) row.more;
          looks = subst (λ (xs : List Entry). LooksInTurn look m ids (not_among before (p ∷ ps)) xs ((p, ready) ∷ row.more) after) (sym a.cut)
              (subst (λ (qs : List ℕ). LooksInTurn look m ids qs (es ++ a.rest) ((p, ready) ∷ row.more) after) (sym first_now) (OneMore m mid after ids p (not_among (p ∷ before) ps) es a.rest ready row.more k.0 row.looks));
          keeps = keeps_then k.1 row.keeps;
          there = λ known missing. elim missing [ inl none ↦ k.2 (missed_before m after (keeps_then k.1 row.keeps).there (keeps_then k.1 row.keeps).table p none) | inr none ↦ row.there (known_still known) none ];
        }
        looked_so gs (Err (Trap NoSuchHandle), after) a = let row = a.row in record {
          front = p ∷ row.front;
          others = row.others;
          one = row.one;
          found = (p, ready) ∷ row.found;
          cut = first_now ∙ ap (λ (qs : List ℕ). p ∷ qs) row.cut;
          looks = subst (λ (xs : List Entry). LooksInTurn look m ids (p ∷ row.front) xs ((p, ready) ∷ row.found) after) (sym a.cut) (OneMore m mid after ids p row.front es a.rest ready row.found k.0 row.looks);
          keeps = keeps_then k.1 row.keeps;
          misses = row.misses;
          among = inr (missed_one m mid k.1.there k.1.table ps row.among);
        }
        looked_so gs (Err _, after) a = absurd a.row

      -- what it watches isn't there
      missed_so : (es : List Entry) (mid : Machine) → FindRow m ids p look es (Err (Trap NoSuchHandle), mid) → TurnRow m ids before found (p ∷ ps) es (Err (Trap NoSuchHandle), mid)
      missed_so es mid k = subst (λ (x : Machine). TurnRow m ids before found (p ∷ ps) es (Err (Trap NoSuchHandle), x)) (sym k.2) (subst (λ (xs : List Entry). TurnRow m ids before found (p ∷ ps) xs (Err (Trap NoSuchHandle), m)) (sym k.1)
          (record { front = []; others = not_among (p ∷ before) ps; one = p; found = []; cut = first_now; looks = NoMore m ids; keeps = keeps_same m; misses = k.0; among = inl k.0 }))

  abbrev EachTurn : List ℕ → Type 0
  EachTurn ps = (m : Machine) (ids : Ids) (before : List ℕ) (found : Found) → AreFound before found → Meets (TurnRow m ids before found ps) [] (look_each look ps m ids found)

  module _ (p : ℕ) (ps : List ℕ) (goes : EachTurn ps) (m : Machine) (ids : Ids) (before : List ℕ) (found : Found) (same : AreFound before found) where
    goes_on : is_among before p ≡ false → (es : List Entry) (done : Result Bool Stop × Machine) → FindRow m ids p look es done → Meets (TurnRow m ids before found (p ∷ ps)) es (looked_at (ids_after_look look m ids p) found p (look_each look ps) done)
    goes_on was es (Ok ready, mid) k =
        widen (looked_so m ids before found p ps was es ready mid k) (shifted es (goes mid (ids_after_look look m ids p) (p ∷ before) (found ++ (p, ready) ∷ []) (found_more before found p ready same)))
    goes_on was es (Err (Trap NoSuchHandle), mid) k = ends (missed_so m ids before found p ps was es mid k)
    goes_on was es (Err _, mid) k = absurd k

    by_found : (o : Option Bool) → found_of found p ≡ o → Meets (TurnRow m ids before found (p ∷ ps)) [] (look_once look m ids found p (look_each look ps) o)
    by_found (Some ready) e = widen (passed m ids before found p ps (same p ∙ ap (λ (o : Option Bool). is_some o) e)) (goes m ids before found same)
    by_found None e = chain (find_facts m ids p look) (goes_on (same p ∙ ap (λ (o : Option Bool). is_some o) e))

  pub each_turn : (ps : List ℕ) → EachTurn ps
  each_turn [] m ids before found same = ends (record { more = []; all_is = sym (append-nil found); looks = NoMore m ids; keeps = keeps_same m; there = λ known none. none })
  each_turn (p ∷ ps) m ids before found same = by_found p ps (each_turn ps) m ids before found same (found_of found p) refl
