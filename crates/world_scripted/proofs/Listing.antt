-- Lists for each kind, of which one changes.
use Rattle.std.proofs.Common.{◌≡◌, ℕ, ◌<◌, Bool, true, false, List, [], ◌∷◌, ◌++◌, length, get_or, set, map, drop, Option, Some, None, Result, Ok, Err, IfOk, refl, sym, ap, ◌∙◌, subst, ⊎_elim, arith}
use Rattle.std.specs.Prelude.{slice_get, option_map, IfSome, ◌&&◌, if◌then◌else◌}
use Rattle.std.specs.List.{list_all}
use Rattle.std.specs.declared.alloc.AllocError.{AllocError}
use Rattle.std.proofs.lemmas.Bool.{cases_eq, false≢true}
use Rattle.std.proofs.lemmas.List.{get_or-map, get_or-set_same, get_or-set_other, map-set, length-set, length-map}
use Rattle.std.proofs.lemmas.List.Folds.{list_all-append}
use Rattle.std.proofs.Math.Seq.{map-set_same}
use Rattle.wasi_world.specs.declared.call.Call.{Call}
use Rattle.wasi_world.specs.declared.call.Told.{Told}
use Rattle.wasi_world.specs.declared.plan.Kind.{Kind}
use Rattle.wasi_world.specs.declared.plan.Kind.TheVariants as kind
use Rattle.wasi_world.specs.declared.plan.Planned.{Planned}
use Rattle.wasi_world.specs.declared.plan.Planned.TheVariants.{Bytes}
use Rattle.wasi_world.specs.Fits.{Fits}
use Rattle.wasi_world.specs.Seen.{Plan}
use Rattle.wasi_world.specs.Kinds.{place, kind_of, kind_count, list_of, takes, IsByKind}
use Rattle.world_scripted.specs.Queued.{Queued, Listed, listed, IsListed, with_answer}
use Rattle.wasi_world.specs.Script.{asked, Offers, given, as_planned, left_after, waiting, with_waiting, plan_after}
use Rattle.world_scripted.proofs.Fitting.{any_bytes, planned_fits}

-- each kind has a place of its own
kinds : List Kind
kinds = kind.Check ∷ kind.Lookup ∷ kind.TcpCreate ∷ kind.UdpCreate ∷ kind.UdpWritable ∷ kind.Local ∷ kind.Peer ∷ kind.Bind ∷ kind.Listen ∷ kind.SetBacklog ∷ kind.UdpBind ∷ kind.UdpConnect ∷ kind.UdpDisconnect ∷ kind.SetOption ∷ kind.Connect ∷ kind.Send ∷ kind.Accept ∷ kind.Read ∷ kind.ReadReady ∷ kind.Write ∷ kind.WriteReady ∷ kind.Recv ∷ kind.GetOption ∷ []

at_place : (k : Kind) → get_or kinds (place k) kind.Check ≡ k
unfolding kinds
at_place kind.Check = refl
at_place _ = refl

place_is : (k j : Kind) → place k ≡ place j → k ≡ j
place_is k j e = sym (at_place k) ∙ (ap (λ n. get_or kinds n kind.Check) e ∙ at_place j)

place_within : (k : Kind) → place k < 23
place_within kind.Check = omega arith
place_within _ = omega arith

within_plan : (plan : Plan) (k : Kind) → length plan ≡ kind_count → place k < length plan
within_plan plan k count = rw count (place_within k)

-- one list takes the place of another of its kind
by_kind_set : (plan : Plan) (k : Kind) (answers : List Planned) → length plan ≡ kind_count → IsByKind plan → list_all (takes k) answers ≡ true → IsByKind (set plan (place k) answers)
by_kind_set plan k answers count by_kind h j =
    ⊎_elim
    (λ (e : place j ≡ place k). subst (λ (x : Kind). list_all (takes x) (get_or (set plan (place k) answers) (place x) []) ≡ true) (sym (place_is j k e)) (let within = within_plan plan k count in rw get_or-set_same h))
    (λ (e : place j ≡ place k → ⊥). rw get_or-set_other (by_kind j))
    (cases_eq (place j) (place k))

and_left : (a b : Bool) → (a && b) ≡ true → a ≡ true
and_left true b h = refl
and_left false b h = h

and_right : (a b : Bool) → (a && b) ≡ true → b ≡ true
and_right true b h = h
and_right false b h = absurd (false≢true h)

-- what is left of a list of a kind is of that kind
if_left : (k : Kind) (used : Bool) (first : Planned) (answers : List Planned) → list_all (takes k) (first ∷ answers) ≡ true → list_all (takes k) (if used then answers else (first ∷ answers)) ≡ true
if_left k true first answers h = and_right (takes k first) _ h
if_left k false first answers h = h

left_by_kind : (k : Kind) (c : Call) (answers : List Planned) → list_all (takes k) answers ≡ true → list_all (takes k) (left_after c answers) ≡ true
left_by_kind k c [] h = h
left_by_kind k c (Bytes bytes ∷ answers) h =
    if_left k _ (Bytes (drop (asked c) bytes)) answers (ap (λ b. b && list_all (takes k) answers) (any_bytes k (drop (asked c) bytes) bytes) ∙ h)
left_by_kind k c (first ∷ answers) h = and_right (takes k first) _ h

push_by_kind : (k : Kind) (answers : List Planned) (answer : Planned) → list_all (takes k) answers ≡ true → takes k answer ≡ true → list_all (takes k) (answers ++ answer ∷ []) ≡ true
push_by_kind k answers answer h t = rw (list_all-append, h, t) refl

same_listed : {a b c d : Plan} → a ≡ b → c ≡ d → (let x : Listed = record { all = a; left = c } in x) ≡ record { all = b; left = d }
same_listed {b} {c} e f = ap (λ a. let x : Listed = record { all = a; left = c } in x) e ∙ ap (λ c. let x : Listed = record { all = b; left = c } in x) f

plan_after_kind : (plan : Plan) (c : Call) (k : Kind) → Some k ≡ kind_of c → plan_after plan c ≡ set plan (place k) (left_after c (list_of plan k))
plan_after_kind plan c k e = ap (λ (o : Option Kind). with_waiting plan o (left_after c (waiting plan o))) (sym e)

-- the queue of a kind among all queues
module _ (queues : List Queued) (i : ℕ) (k : Kind) (here : i ≡ place k) (was : Queued) (good : IsListed queues) (stood : was ≡ get_or queues i was) where
  part_is : (f : Queued → List Planned) → list_of (map f queues) k ≡ f was
  part_is f = get_or-map f queues (place k) was [] (rw good.count (place_within k)) ∙ ap f (rw (← here) (sym stood))

  was_by_kind : list_all (takes k) was.left ≡ true
  was_by_kind = subst (λ (l : List Planned). list_all (takes k) l ≡ true) (part_is (λ q. q.left)) (good.by_kind k)

  still_listed : (now : Queued) → list_all (takes k) now.left ≡ true → IsListed (set queues i now)
  still_listed now h = record {
    count = length-set queues i now ∙ good.count;
    by_kind = rw (map-set, here) (by_kind_set (map (λ q. q.left) queues) k now.left (simp length-map good.count) good.by_kind h);
  }

  -- one answer more
  pub push_listed : (now : Queued) (answer : Planned) → takes k answer ≡ true → now ≡ record { all = was.all ++ answer ∷ []; left = was.left ++ answer ∷ [] } → IsListed (set queues i now)
  push_listed now answer h e = still_listed now (rw e (push_by_kind k was.left answer was_by_kind h))

  pub listed_push : (now : Queued) (answer : Planned) → now ≡ record { all = was.all ++ answer ∷ []; left = was.left ++ answer ∷ [] } → listed (set queues i now) ≡ record { all = with_answer (listed queues).all k answer; left = with_answer (listed queues).left k answer }
  listed_push now answer e =
      same_listed
      (map-set (λ q. q.all) queues i now ∙ rw (here, e, part_is (λ q. q.all)) refl)
      (map-set (λ q. q.left) queues i now ∙ rw (here, e, part_is (λ q. q.left)) refl)

  -- on to what is left after a call
  pub advance_listed : (now : Queued) (c : Call) → now ≡ record { all = was.all; left = left_after c was.left } → IsListed (set queues i now)
  advance_listed now c e = still_listed now (rw e (left_by_kind k c was.left was_by_kind))

  pub listed_advance : (now : Queued) (c : Call) → Some k ≡ kind_of c → now ≡ record { all = was.all; left = left_after c was.left } → listed (set queues i now) ≡ record { all = (listed queues).all; left = plan_after (listed queues).left c }
  listed_advance now c o e =
      same_listed
      (map-set_same (λ q. q.all) queues i now was (ap (λ q. q.all) e ∙ ap (λ q. q.all) stood))
      (map-set (λ q. q.left) queues i now ∙ rw (here, e, plan_after_kind (map (λ q. q.left) queues) c k o, part_is (λ q. q.left)) refl)

  -- what the first of a list reports fits
  first_fits : (c : Call) (t : Told) (answers : List Planned) → Some k ≡ kind_of c → Offers c → list_all (takes k) answers ≡ true → Some (as_planned t) ≡ option_map (given c) (slice_get answers 0) → Fits c t
  first_fits c t [] o some h e = cc
  first_fits c t (first ∷ answers) o some h e = planned_fits c k first t (sym o) (and_left (takes k first) _ h) some cc

  pub told_fits : (c : Call) (r : Result (Option Told) AllocError) → Some k ≡ kind_of c → Offers c → IfOk r (λ o. option_map as_planned o ≡ option_map (given c) (slice_get was.left 0)) → IfOk r (λ o. IfSome o (λ t. Fits c t))
  told_fits c (Err e) o some h = tt
  told_fits c (Ok None) o some h = tt
  told_fits c (Ok (Some t)) o some h = first_fits c t was.left o some was_by_kind h
