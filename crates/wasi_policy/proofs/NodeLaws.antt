-- The nodes that hold an address.
use Rattle.std.specs.Prelude.{nat_le, min, if◌then◌else◌, ◌&&◌}
use Rattle.std.specs.List.{All}
use Rattle.std.specs.List.Sorted.{IsNonDecreasingBy, IsPermutation}
use Rattle.std.proofs.Common.{◌≡◌, ℕ, zero, suc, ◌+◌, ◌-◌, ◌≤◌, ◌<◌, Bool, true, false, List, [], ◌∷◌, ◌++◌, length, take, drop, get_or, ◌⊎◌, inl, inr, arith, ap, sym, subst, ◌∙◌, refl}
use Rattle.std.proofs.lemmas.Bool.{and_parts, false≢true, cases_lt, cases_order}
use Rattle.std.proofs.lemmas.Bool.Decides.{nat_tests}
use Rattle.std.proofs.lemmas.List.{take_more, take_all, take-take, take-append-le, take-append-drop, drop-take, length-drop, length-take-le, get_or-take, get_or-drop, get_or_append_left, get_or_push, get_or_default, length_push}
use Rattle.std.proofs.lemmas.List.Elements.{All-nil, All-cons, All-head, All-tail}
use Rattle.std.proofs.lemmas.List.Sorted.{All-permutation, IsPermutation-sym, IsNonDecreasingBy-push}
use Rattle.wasi_policy.specs.declared.cells.Cell.{Cell}
use Rattle.wasi_policy.specs.declared.node.Node.{Node}
use Rattle.wasi_policy.specs.declared.reach.Reach.{Reach}
use Rattle.wasi_policy.specs.Reach.{no_rule, has_port, has, first_by_port, first_of}
use Rattle.wasi_policy.specs.Cells.{at_port}
use Rattle.wasi_policy.specs.Nodes.{at_range, at_node, at_nodes, next_for, IsLinked, StandFor, IsIndex, BeginBy, AreAlike, Gathers}

-- == what nodes have together
holds_not : (low high : ℕ) (cells : List Cell) (number port : ℕ) → (number < low) ⊎ (high < number) → at_range low high cells number port ≡ no_rule
holds_not low high cells number port (inl h) = let out : nat_le low number ≡ false = grind (arith, nat_tests) in rw out refl
holds_not low high cells number port (inr h) = step (nat_le low number) where
  step : (b : Bool) → (if b && nat_le number high then at_port no_rule cells port else no_rule) ≡ no_rule
  step true = let out : nat_le number high ≡ false = grind (arith, nat_tests) in rw out refl
  step false = refl

-- the first so many nodes have no rule from a number on, if none of them holds the address
module _ (number port : ℕ) where
  pub at_nodes-append : (xs ys : List Node) → at_nodes (xs ++ ys) number port ≡ min (at_nodes xs number port) (at_nodes ys number port)
  at_nodes-append [] ys = sym (within ys) where
    within : (ys : List Node) → min no_rule (at_nodes ys number port) ≡ at_nodes ys number port
    within [] = refl
    within (y ∷ ys) = let rest = within ys in omega (arith, rest)
  at_nodes-append (x ∷ xs) ys = let rest = at_nodes-append xs ys in rw rest (omega arith)

  within : (nodes : List Node) → at_nodes nodes number port ≤ no_rule
  within [] = omega arith
  within (node ∷ nodes) = let rest = within nodes in omega (arith, rest)

  -- one more node
  pub one_more : (nodes : List Node) (k : ℕ) (d : Node) → k < length nodes → at_nodes (take (k + 1) nodes) number port ≡ min (at_nodes (take k nodes) number port) (at_node (get_or nodes k d) number port)
  one_more nodes k d h =
      let rest = within (take k nodes) in
      rw (take_more nodes k d h) (at_nodes-append (take k nodes) (get_or nodes k d ∷ []) ∙ last (at_nodes (take k nodes) number port) (at_node (get_or nodes k d) number port) rest)
    where
      last : (a b : ℕ) → a ≤ no_rule → min a (min b no_rule) ≡ min a b
      last a b h = omega (arith, h)

  pub with_one : (nodes : List Node) (node : Node) → at_nodes (nodes ++ node ∷ []) number port ≡ min (at_nodes nodes number port) (at_node node number port)
  with_one nodes node =
      let least = within nodes in
      at_nodes-append nodes (node ∷ []) ∙ last (at_nodes nodes number port) (at_node node number port) least
    where
      last : (a b : ℕ) → a ≤ no_rule → min a (min b no_rule) ≡ min a b
      last a b h = omega (arith, h)

  -- nodes that don't hold the address make no difference
  pub passed : (nodes : List Node) (low many : ℕ) (d : Node) → low + many ≤ length nodes → ((k : ℕ) → low ≤ k → k < low + many → at_node (get_or nodes k d) number port ≡ no_rule) → at_nodes (take (low + many) nodes) number port ≡ at_nodes (take low nodes) number port
  passed nodes low zero d h none = let all : low + zero ≡ low = omega arith in rw all refl
  passed nodes low (suc many) d h none =
      let next : low + suc many ≡ low + many + 1 = omega arith in
      let rest = passed nodes low many d (omega arith) (λ k e f. none k e (omega arith)) in
      let here = one_more nodes (low + many) d (omega arith) in
      let no = none (low + many) (omega arith) (omega arith) in
      let least = within (take (low + many) nodes) in
      rw next (here ∙ omega (arith, rest, no, least))

  pub passed_to : (nodes : List Node) (low high : ℕ) (d : Node) → low ≤ high → high ≤ length nodes → ((k : ℕ) → low ≤ k → k < high → at_node (get_or nodes k d) number port ≡ no_rule) → at_nodes (take high nodes) number port ≡ at_nodes (take low nodes) number port
  passed_to nodes low high d e f none =
      let same : low + (high - low) ≡ high = omega arith in
      ap (λ k. at_nodes (take k nodes) number port) (sym same) ∙ passed nodes low (high - low) d (omega arith) (λ k g h. none k g (omega arith))

-- == a walk from the last node that begins at the address or before it
-- the nodes up to a place are left, and the first of the others is known
pub record LeftTo (nodes : List Node) (number port start at first : ℕ) : Type 0 where
  pub bound : at ≤ start
  pub within : start ≤ length nodes
  pub begun : (k : ℕ) (d : Node) → k < start → (get_or nodes k d).low ≤ number
  pub most : first ≤ no_rule
  pub rest : min first (at_nodes (take at nodes) number port) ≡ at_nodes nodes number port

pub walk_starts : (nodes : List Node) (number port start : ℕ) → start ≤ length nodes → ((k : ℕ) (d : Node) → k < start → (get_or nodes k d).low ≤ number) → ((k : ℕ) (d : Node) → start ≤ k → k < length nodes → number < (get_or nodes k d).low) → LeftTo nodes number port start start no_rule
walk_starts nodes number port start h begun later = record {
  bound = omega arith;
  within = h;
  begun = begun;
  most = omega arith;
  rest =
      let least = within number port (take start nodes) in
      (omega (arith, least) ∙ sym (all nodes h later)) ∙ ap (λ xs. at_nodes xs number port) (take_all (length nodes) nodes (omega arith));
} where
  all : (nodes : List Node) → start ≤ length nodes → ((k : ℕ) (d : Node) → start ≤ k → k < length nodes → number < (get_or nodes k d).low) → at_nodes (take (length nodes) nodes) number port ≡ at_nodes (take start nodes) number port
  all [] h later = let none : start ≡ 0 = omega (arith, h) in rw none refl
  all (node ∷ nodes) h later = passed_to number port (node ∷ nodes) start (length (node ∷ nodes)) node h (omega arith) (λ k e f. holds_not _ _ _ number port (inl (later k node e f)))

-- a node that may not hold the address leads past those that don't
walk_past : (nodes : List Node) (number port start at first : ℕ) (node : Node) → IsLinked nodes → 0 < at → node ≡ get_or nodes (at - 1) node → LeftTo nodes number port start at first → LeftTo nodes number port start node.before (min first (at_node node number port))
walk_past nodes number port start at first node linked some is left =
    let inside : at - 1 < length nodes = omega (arith, some, left.bound, left.within) in
    let link = linked (at - 1) node inside in
    let before : node.before ≡ (get_or nodes (at - 1) node).before = ap (λ (x : Node). x.before) is in
    let low : node.low ≡ (get_or nodes (at - 1) node).low = ap (λ (x : Node). x.low) is in
    let begins : (get_or nodes (at - 1) node).low ≤ number = left.begun (at - 1) node (omega (arith, some, left.bound)) in
    let bound : node.before ≤ at - 1 = omega (arith, before, link.0) in
    record {
      bound = omega (arith, bound, left.bound);
      within = left.within;
      begun = left.begun;
      most = less first (at_node node number port) left.most;
      rest =
          let same : at - 1 + 1 ≡ at = omega (arith, some) in
          let skip = passed_to number port nodes node.before (at - 1) node bound (omega (arith, inside)) (λ k e f. holds_not _ _ _ number port (inr (omega (arith, link.1 k (omega (arith, before, e)) f, begins)))) in
          let here : at_nodes (take at nodes) number port ≡ min (at_nodes (take (at - 1) nodes) number port) (at_node node number port) =
          ap (λ k. at_nodes (take k nodes) number port) (sym same) ∙ (one_more number port nodes (at - 1) node inside ∙ ap (λ (x : Node). min (at_nodes (take (at - 1) nodes) number port) (at_node x number port)) (sym is)) in
          let found : min first (at_nodes (take at nodes) number port) ≡ at_nodes nodes number port = left.rest in
          by_least (at_nodes (take node.before nodes) number port) (at_nodes (take (at - 1) nodes) number port) (at_nodes (take at nodes) number port) (at_node node number port) (at_nodes nodes number port) skip here found;
    }
  where
    less : (a b : ℕ) → a ≤ no_rule → min a b ≤ no_rule
    less a b h = omega (arith, h)

    by_least : (a b c here all : ℕ) → b ≡ a → c ≡ min b here → min first c ≡ all → min (min first here) a ≡ all
    by_least a b c here all e f g = omega (arith, e, f, g)

-- a node that holds the address stands for those round it
walk_in : (nodes : List Node) (number port start at first : ℕ) (node : Node) → StandFor nodes → 0 < at → node ≡ get_or nodes (at - 1) node → number ≤ node.high → LeftTo nodes number port start at first → LeftTo nodes number port start node.next (min first (at_node node number port))
walk_in nodes number port start at first node gathered some is high left =
    let inside : at - 1 < length nodes = omega (arith, some, left.bound, left.within) in
    let stands = gathered (at - 1) node inside in
    let next : node.next ≡ (get_or nodes (at - 1) node).next = ap (λ (x : Node). x.next) is in
    let begins : (get_or nodes (at - 1) node).low ≤ number = left.begun (at - 1) node (omega (arith, some, left.bound)) in
    let ends : number ≤ (get_or nodes (at - 1) node).high = omega (arith, high, ap (λ (x : Node). x.high) is) in
    record {
      bound = omega (arith, next, stands.0, left.bound, some);
      within = left.within;
      begun = left.begun;
      most = less first (at_node node number port) left.most;
      rest =
          let same : at - 1 + 1 ≡ at = omega (arith, some) in
          let here : at_nodes (take at nodes) number port ≡ min (at_node node number port) (at_nodes (take node.next nodes) number port) =
          ap (λ k. at_nodes (take k nodes) number port) (sym same)
          ∙ (stands.1 number port begins ends ∙ ap (λ (x : Node). min (at_node x number port) (at_nodes (take x.next nodes) number port)) (sym is)) in
          by_least (at_node node number port) (at_nodes (take node.next nodes) number port) (at_nodes (take at nodes) number port) (at_nodes nodes number port) here left.rest;
    }
  where
    less : (a b : ℕ) → a ≤ no_rule → min a b ≤ no_rule
    less a b h = omega (arith, h)

    by_least : (here a c all : ℕ) → c ≡ min here a → min first c ≡ all → min (min first here) a ≡ all
    by_least here a c all e f = omega (arith, e, f)

pub walk_next : (nodes : List Node) (number port start at first : ℕ) (node : Node) → IsIndex nodes → 0 < at → node ≡ get_or nodes (at - 1) node → LeftTo nodes number port start at first → LeftTo nodes number port start (next_for node number) (min first (at_node node number port))
walk_next nodes number port start at first node index some is left = by_end (nat_le number node.high) refl where
  leads_to : (k : ℕ) → k ≡ next_for node number → LeftTo nodes number port start k (min first (at_node node number port)) → LeftTo nodes number port start (next_for node number) (min first (at_node node number port))
  leads_to k e left = subst (λ k. LeftTo nodes number port start k (min first (at_node node number port))) e left

  by_end : (b : Bool) → nat_le number node.high ≡ b → LeftTo nodes number port start (next_for node number) (min first (at_node node number port))
  by_end true e =
      let high : number ≤ node.high = grind (arith, nat_tests) in
      leads_to node.next (rw e refl) (walk_in nodes number port start at first node index.gathered some is high left)
  by_end false e = leads_to node.before (rw e refl) (walk_past nodes number port start at first node index.linked some is left)

pub walk_ends : (nodes : List Node) (number port start at first : ℕ) → at ≤ 0 → LeftTo nodes number port start at first → first ≡ at_nodes nodes number port
walk_ends nodes number port start at first ended left =
    let none : at ≡ 0 = omega (arith, ended) in
    let nothing : at_nodes (take at nodes) number port ≡ no_rule = rw none refl in
    omega (arith, left.rest, nothing, left.most)

-- == one more node
-- the nodes from a place on don't reach this address
abbrev pub EndBefore : List Node → ℕ → ℕ → Type 0
EndBefore nodes low at = (k : ℕ) (d : Node) → at ≤ k → k < length nodes → (get_or nodes k d).high < low

pub ends_next : (nodes : List Node) (low at : ℕ) (node : Node) → IsLinked nodes → BeginBy nodes low → 0 < at → at ≤ length nodes → node ≡ get_or nodes (at - 1) node → node.high < low → EndBefore nodes low at → (node.before < at) × EndBefore nodes low node.before
ends_next nodes low at node linked begin some bound is high ends =
    let inside : at - 1 < length nodes = omega (arith, some, bound) in
    let link = linked (at - 1) node inside in
    let before : node.before ≡ (get_or nodes (at - 1) node).before = ap (λ (x : Node). x.before) is in
    let begun : (get_or nodes (at - 1) node).low ≤ low = begin (at - 1) node inside in
    (omega (arith, before, link.0, some), λ k d e f. by_place inside link before begun k d e f (cases_order k (at - 1)))
  where
    by_place : at - 1 < length nodes → (((get_or nodes (at - 1) node).before ≤ at - 1) × ((h : ℕ) → (get_or nodes (at - 1) node).before ≤ h → h < at - 1 → (get_or nodes h node).high < (get_or nodes (at - 1) node).low)) → node.before ≡ (get_or nodes (at - 1) node).before → (get_or nodes (at - 1) node).low ≤ low → (k : ℕ) (d : Node) → node.before ≤ k → k < length nodes → (k ≡ at - 1) ⊎ ((k < at - 1) ⊎ (at - 1 < k)) → (get_or nodes k d).high < low
    by_place inside link before begun k d e f (inl g) =
        let same : get_or nodes k d ≡ node = ap (λ i. get_or nodes i d) g ∙ (get_or_default nodes (at - 1) d node inside ∙ sym is) in
        omega (arith, ap (λ (x : Node). x.high) same, high)
    by_place inside link before begun k d e f (inr (inl g)) =
        let same : get_or nodes k d ≡ get_or nodes k node = get_or_default nodes k d node f in
        omega (arith, ap (λ (x : Node). x.high) same, link.1 k (omega (arith, before, e)) g, begun)
    by_place inside link before begun k d e f (inr (inr g)) = ends k d (omega (arith, g)) f

module _ (nodes : List Node) (node : Node) (own : List Cell) (index : IsIndex nodes) (begin : BeginBy nodes node.low) (bound : node.before ≤ length nodes) (ends : EndBefore nodes node.low node.before) (cells : Gathers nodes node.high node.before own node.next node.cells.items) where
  pub begin_more : BeginBy (nodes ++ node ∷ []) node.low
  begin_more k d h = by_place (cases_lt k (length nodes)) where
    by_place : (k < length nodes) ⊎ (length nodes ≤ k) → (get_or (nodes ++ node ∷ []) k d).low ≤ node.low
    by_place (inl e) = rw (get_or_append_left nodes (node ∷ []) d k e) (begin k d e)
    by_place (inr e) =
        let last : length nodes ≡ k = omega (arith, e, h, length_push nodes node) in
        rw (get_or_push nodes node d k last) (omega arith)

  linked_more : IsLinked (nodes ++ node ∷ [])
  linked_more k d h = by_place (cases_lt k (length nodes)) where
    by_place : (k < length nodes) ⊎ (length nodes ≤ k) → ((get_or (nodes ++ node ∷ []) k d).before ≤ k) × ((i : ℕ) → (get_or (nodes ++ node ∷ []) k d).before ≤ i → i < k → (get_or (nodes ++ node ∷ []) i d).high < (get_or (nodes ++ node ∷ []) k d).low)
    by_place (inl e) =
        let here = get_or_append_left nodes (node ∷ []) d k e in
        let link = index.linked k d e in
        (rw here link.0, λ i f g. rw (here, get_or_append_left nodes (node ∷ []) d i (omega (arith, g, e))) (link.1 i (omega (arith, f, ap (λ (x : Node). x.before) here)) g))
    by_place (inr e) =
        let last : length nodes ≡ k = omega (arith, e, h, length_push nodes node) in
        let here = get_or_push nodes node d k last in
        (rw here (omega (arith, bound, last)), λ i f g. rw (here, get_or_append_left nodes (node ∷ []) d i (omega (arith, g, last))) (ends i d (omega (arith, f, ap (λ (x : Node). x.before) here)) (omega (arith, g, last))))

  -- for its addresses the nodes before it tell what those tell that it leads to
  same_before : (number port : ℕ) → node.low ≤ number → at_nodes nodes number port ≡ at_nodes (take node.before nodes) number port
  same_before number port low =
      ap (λ xs. at_nodes xs number port) (sym (take_all (length nodes) nodes (omega arith)))
      ∙ passed_to number port nodes node.before (length nodes) node bound (omega arith) (λ k e f. holds_not _ _ _ number port (inr (omega (arith, ends k node e f, low))))

  begin_by : (number : ℕ) → node.low ≤ number → BeginBy nodes number
  begin_by number low k d h = omega (arith, begin k d h, low)

  holds : (number port : ℕ) → node.low ≤ number → number ≤ node.high → at_node node number port ≡ at_port no_rule node.cells.items port
  holds number port low high =
      let begins : nat_le node.low number ≡ true = grind (arith, nat_tests) in
      let reaches : nat_le number node.high ≡ true = grind (arith, nat_tests) in
      rw (begins, reaches) refl

  stand_more : StandFor (nodes ++ node ∷ [])
  stand_more k d h = by_place (cases_lt k (length nodes)) where
    by_place : (k < length nodes) ⊎ (length nodes ≤ k) → ((get_or (nodes ++ node ∷ []) k d).next ≤ k) × ((number port : ℕ) → (get_or (nodes ++ node ∷ []) k d).low ≤ number → number ≤ (get_or (nodes ++ node ∷ []) k d).high → at_nodes (take (k + 1) (nodes ++ node ∷ [])) number port ≡ min (at_node (get_or (nodes ++ node ∷ []) k d) number port) (at_nodes (take (get_or (nodes ++ node ∷ []) k d).next (nodes ++ node ∷ [])) number port))
    by_place (inl e) =
        let here = get_or_append_left nodes (node ∷ []) d k e in
        let stands = index.gathered k d e in
        let front = take-append-le (k + 1) nodes (node ∷ []) (omega (arith, e)) in
        let back = take-append-le (get_or nodes k d).next nodes (node ∷ []) (omega (arith, stands.0, e)) in
        (rw here stands.0, λ number port low high. rw (here, front, back) (stands.1 number port (omega (arith, low, ap (λ (x : Node). x.low) here)) (omega (arith, high, ap (λ (x : Node). x.high) here))))
    by_place (inr e) =
        let last : length nodes ≡ k = omega (arith, e, h, length_push nodes node) in
        let here = get_or_push nodes node d k last in
        let below : node.next ≤ length nodes = omega (arith, cells.bound, bound) in
        let whole = take_all (k + 1) (nodes ++ node ∷ []) (omega (arith, last, length_push nodes node)) in
        let back = take-append-le node.next nodes (node ∷ []) below in (
          rw here (omega (arith, below, last)),
          λ number port low high.
              let low' : node.low ≤ number = omega (arith, low, ap (λ (x : Node). x.low) here) in
              let high' : number ≤ node.high = omega (arith, high, ap (λ (x : Node). x.high) here) in
              rw (here, whole, back) (with_one number port nodes node ∙ last_one number port low' high'),
        )
      where
        by_least : (before own c next : ℕ) → c ≤ own → min c next ≡ min own before → min before c ≡ min c next
        by_least before own c next e f = omega (arith, e, f)

        last_one : (number port : ℕ) → node.low ≤ number → number ≤ node.high → min (at_nodes nodes number port) (at_node node number port) ≡ min (at_node node number port) (at_nodes (take node.next nodes) number port)
        last_one number port low high =
            rw (same_before number port low, holds number port low high) (by_least (at_nodes (take node.before nodes) number port) (at_port no_rule own port) (at_port no_rule node.cells.items port) (at_nodes (take node.next nodes) number port) (cells.more port) (cells.same number port (begin_by number low) high))

  -- the nodes tell what they told before, and what its own cells have
  pub adds : (number port : ℕ) → at_nodes (nodes ++ node ∷ []) number port ≡ min (at_nodes nodes number port) (at_range node.low node.high own number port)
  adds number port = with_one number port nodes node ∙ by_address (nat_le node.low number) (nat_le number node.high) refl refl where
    by_least : (before own c next : ℕ) → c ≤ own → min c next ≡ min own before → min before c ≡ min before own
    by_least before own c next e f = omega (arith, e, f)

    by_address : (a b : Bool) → nat_le node.low number ≡ a → nat_le number node.high ≡ b → min (at_nodes nodes number port) (at_node node number port) ≡ min (at_nodes nodes number port) (at_range node.low node.high own number port)
    by_address true true e f =
        let low : node.low ≤ number = grind (arith, nat_tests) in
        let high : number ≤ node.high = grind (arith, nat_tests) in
        rw (e, f, same_before number port low) (by_least (at_nodes (take node.before nodes) number port) (at_port no_rule own port) (at_port no_rule node.cells.items port) (at_nodes (take node.next nodes) number port) (cells.more port) (cells.same number port (begin_by number low) high))
    by_address true false e f = rw (e, f) refl
    by_address false b e f = rw e refl

  pub index_more : IsIndex (nodes ++ node ∷ [])
  index_more = record {
    rising = IsNonDecreasingBy-push (λ (x : Node). x.low) nodes node index.rising (λ d h. begin (length nodes - 1) d (omega (arith, h)));
    linked = linked_more;
    gathered = stand_more;
  }

-- == what rules match, in nodes
module _ (number port : ℕ) where
  abbrev pub place_of : Reach → ℕ
  place_of reach = if has reach number port then reach.place else no_rule

  first_most : (reaches : List Reach) → first_of reaches number port ≤ no_rule
  first_most [] = omega arith
  first_most (reach ∷ reaches) = let rest = first_most reaches in omega (arith, rest)

  pub first_of-append : (xs ys : List Reach) → first_of (xs ++ ys) number port ≡ min (first_of xs number port) (first_of ys number port)
  first_of-append [] ys = let rest = first_most ys in omega (arith, rest)
  first_of-append (x ∷ xs) ys = let rest = first_of-append xs ys in rw rest (omega arith)

  -- in another order
  below_all : (reaches : List Reach) (least : ℕ) → least ≤ no_rule → All (λ r. least ≤ place_of r) reaches → least ≤ first_of reaches number port
  below_all [] least h all = h
  below_all (reach ∷ reaches) least h all =
      let here = All-head (λ r. least ≤ place_of r) reach reaches all in
      let rest = below_all reaches least h (All-tail (λ r. least ≤ place_of r) reach reaches all) in
      both (place_of reach) (first_of reaches number port) here rest
    where
      both : (a b : ℕ) → least ≤ a → least ≤ b → least ≤ min a b
      both a b e f = omega (arith, e, f)

  all_above : (reaches : List Reach) (least : ℕ) → least ≤ first_of reaches number port → All (λ r. least ≤ place_of r) reaches
  all_above [] least h = All-nil (λ r. least ≤ place_of r)
  all_above (reach ∷ reaches) least h =
      let parts = both (place_of reach) (first_of reaches number port) h in
      All-cons (λ r. least ≤ place_of r) reach reaches parts.0 (all_above reaches least parts.1)
    where
      both : (a b : ℕ) → least ≤ min a b → (least ≤ a) × (least ≤ b)
      both a b e = (omega (arith, e), omega (arith, e))

  no_less : (xs ys : List Reach) → IsPermutation xs ys → first_of xs number port ≤ first_of ys number port
  no_less xs ys moved = below_all ys (first_of xs number port) (first_most xs) (All-permutation (λ r. first_of xs number port ≤ place_of r) xs ys moved (all_above xs (first_of xs number port) (omega arith)))

  pub first_in_order : (xs ys : List Reach) → IsPermutation xs ys → first_of ys number port ≡ first_of xs number port
  first_in_order xs ys moved = omega (arith, no_less xs ys moved, no_less ys xs (IsPermutation-sym xs ys moved))

  -- of rules that match the same addresses
  pub as_one : (reaches : List Reach) (low high : ℕ) → ((k : ℕ) (d : Reach) → k < length reaches → ((get_or reaches k d).low ≡ low) × ((get_or reaches k d).high ≡ high)) → first_of reaches number port ≡ (if nat_le low number && nat_le number high then first_by_port reaches port else no_rule)
  as_one reaches low high same = by_address (nat_le low number && nat_le number high) refl where
    inside : (reaches : List Reach) → ((k : ℕ) (d : Reach) → k < length reaches → ((get_or reaches k d).low ≡ low) × ((get_or reaches k d).high ≡ high)) → (nat_le low number && nat_le number high) ≡ true → first_of reaches number port ≡ first_by_port reaches port
    inside [] same h = refl
    inside (reach ∷ reaches) same h =
        let here = same 0 reach (omega arith) in
        let rest = inside reaches (λ k d e. same (suc k) d (omega (arith, e))) h in
        let parts = and_parts (nat_le low number) _ h in
        rw (here.0, here.1, parts.0, parts.1, rest) refl

    outside : (reaches : List Reach) → ((k : ℕ) (d : Reach) → k < length reaches → ((get_or reaches k d).low ≡ low) × ((get_or reaches k d).high ≡ high)) → (nat_le low number && nat_le number high) ≡ false → first_of reaches number port ≡ no_rule
    outside [] same h = refl
    outside (reach ∷ reaches) same h =
        let here = same 0 reach (omega arith) in
        let rest = outside reaches (λ k d e. same (suc k) d (omega (arith, e))) h in
        rw (here.0, here.1, rest) (none (nat_le low number) (nat_le number high) h)
      where
        none : (b c : Bool) → (b && c) ≡ false → min (if b && c && has_port reach port then reach.place else no_rule) no_rule ≡ no_rule
        none true true e = absurd (false≢true (sym e))
        none true false e = refl
        none false c e = refl

    by_address : (b : Bool) → (nat_le low number && nat_le number high) ≡ b → first_of reaches number port ≡ (if nat_le low number && nat_le number high then first_by_port reaches port else no_rule)
    by_address true e = rw e (inside reaches same e)
    by_address false e = rw e (outside reaches same e)

-- == the nodes of what rules match, group by group
-- the nodes are those of the first so many, and begin at or before the addresses of the next
pub record HasNodesTo (reaches : List Reach) (at : ℕ) (nodes : List Node) : Type 0 where
  pub index : IsIndex nodes
  pub bound : at ≤ length reaches
  pub begun : (d : Reach) → at < length reaches → BeginBy nodes (get_or reaches at d).low
  pub first : (number port : ℕ) → at_nodes nodes number port ≡ first_of (take at reaches) number port

pub no_nodes : (reaches : List Reach) → HasNodesTo reaches 0 []
no_nodes reaches = record {
  index = record { rising = λ i j d h k. absurd (omega (arith, k)); linked = λ k d h. absurd (omega (arith, h)); gathered = λ k d h. absurd (omega (arith, h)) };
  bound = omega arith;
  begun = λ d h k e f. absurd (omega (arith, f));
  first = λ number port. refl;
}

take_two : (reaches : List Reach) (at count : ℕ) → take (at + count) reaches ≡ take at reaches ++ take count (drop at reaches)
take_two reaches at count =
    sym (take-append-drop at (take (at + count) reaches))
    ∙ (ap (λ xs. xs ++ drop at (take (at + count) reaches)) (take-take at (at + count) reaches (omega arith))
    ∙ ap (λ xs. take at reaches ++ xs) (drop-take at count reaches))

-- one more group
pub more_nodes : (reaches : List Reach) (at count : ℕ) (old new : List Node) (low high : ℕ) (cells : List Cell) → IsNonDecreasingBy (λ (r : Reach). r.low) reaches → HasNodesTo reaches at old → 0 < count → count ≤ length (drop at reaches) → AreAlike (drop at reaches) count → ((d : Reach) → (low ≡ (get_or (drop at reaches) 0 d).low) × (high ≡ (get_or (drop at reaches) 0 d).high)) → ((port : ℕ) → at_port no_rule cells port ≡ first_by_port (take count (drop at reaches)) port) → IsIndex new → BeginBy new low → ((number port : ℕ) → at_nodes new number port ≡ min (at_nodes old number port) (at_range low high cells number port)) → HasNodesTo reaches (at + count) new
more_nodes reaches at count old new low high cells rising done some fits alike group cells_are index begun added = record {
  index = index;
  bound = omega (arith, fits, length-drop at reaches, some, done.bound);
  begun = λ d h k e f. omega (arith, begun k e f, starts d h);
  first = λ number port. added number port ∙ (both number port ∙ sym (ap (λ xs. first_of xs number port) (take_two reaches at count) ∙ first_of-append number port (take at reaches) (take count (drop at reaches))));
} where
  at_none : (n : ℕ) → n + 0 ≡ n
  at_none n = omega arith

  starts : (d : Reach) → at + count < length reaches → low ≤ (get_or reaches (at + count) d).low
  starts d h =
      let here : (get_or (drop at reaches) 0 d).low ≡ (get_or reaches at d).low = ap (λ (r : Reach). r.low) (get_or-drop at reaches 0 d) ∙ ap (λ i. (get_or reaches i d).low) (at_none at) in
      omega (arith, (group d).0, here, rising at (at + count) d (omega arith) h)

  length_is : length (take count (drop at reaches)) ≡ count
  length_is = length-take-le count (drop at reaches) fits

  same : (k : ℕ) (d : Reach) → k < length (take count (drop at reaches)) → ((get_or (take count (drop at reaches)) k d).low ≡ low) × ((get_or (take count (drop at reaches)) k d).high ≡ high)
  same k d h =
      let below : k < count = omega (arith, h, length_is) in
      let read = get_or-take count (drop at reaches) k d below in
      let here = alike k d below in
      (omega (arith, ap (λ (r : Reach). r.low) read, here.0, (group d).0), omega (arith, ap (λ (r : Reach). r.high) read, here.1, (group d).1))

  both : (number port : ℕ) → min (at_nodes old number port) (at_range low high cells number port) ≡ min (first_of (take at reaches) number port) (first_of (take count (drop at reaches)) number port)
  both number port =
      let one : at_range low high cells number port ≡ first_of (take count (drop at reaches)) number port = ap (λ x. if nat_le low number && nat_le number high then x else no_rule) (cells_are port) ∙ sym (as_one number port (take count (drop at reaches)) low high same) in
      rw (done.first number port, one) refl

-- == groups of rules that match the same addresses
pub alike_first : (reaches : List Reach) → AreAlike reaches 1
alike_first reaches k d h = let none : k ≡ 0 = omega (arith, h) in rw none (refl, refl)

pub alike_more : (reaches : List Reach) (count : ℕ) (e : Reach) → 0 < count → count < length reaches → AreAlike reaches count → (get_or reaches count e).low ≡ (get_or reaches 0 e).low → (get_or reaches count e).high ≡ (get_or reaches 0 e).high → AreAlike reaches (count + 1)
alike_more reaches count e some below alike low high k d h = by_place (cases_lt k count) where
  by_place : (k < count) ⊎ (count ≤ k) → ((get_or reaches k d).low ≡ (get_or reaches 0 d).low) × ((get_or reaches k d).high ≡ (get_or reaches 0 d).high)
  by_place (inl f) = alike k d f
  by_place (inr f) =
      let last : k ≡ count = omega (arith, f, h) in
      let here = get_or_default reaches count d e below in
      let start = get_or_default reaches 0 d e (omega (arith, below)) in
      rw (last, here, start) (low, high)

-- one more group: rest is what was not looked at
pub more_nodes_at : (reaches rest : List Reach) (at count : ℕ) (e : Reach) (old new : List Node) (cells : List Cell) → rest ≡ drop at reaches → IsNonDecreasingBy (λ (r : Reach). r.low) reaches → HasNodesTo reaches at old → 0 < count → count ≤ length rest → AreAlike rest count → ((port : ℕ) → at_port no_rule cells port ≡ first_by_port (take count rest) port) → IsIndex new → BeginBy new (get_or rest 0 e).low → ((number port : ℕ) → at_nodes new number port ≡ min (at_nodes old number port) (at_range (get_or rest 0 e).low (get_or rest 0 e).high cells number port)) → HasNodesTo reaches (at + count) new
more_nodes_at reaches rest at count e old new cells same rising done some fits alike cells_are index begun added =
    more_nodes reaches at count old new (get_or rest 0 e).low (get_or rest 0 e).high cells rising done some (rw (← same) fits) (rw (← same) alike) (λ d. rw (← same) (group d)) (rw (← same) cells_are) index begun added
  where
    group : (d : Reach) → ((get_or rest 0 e).low ≡ (get_or rest 0 d).low) × ((get_or rest 0 e).high ≡ (get_or rest 0 d).high)
    group d = let start = get_or_default rest 0 e d (omega (arith, some, fits)) in rw start (refl, refl)
