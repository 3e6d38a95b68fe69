-- Small logs that the law lets through, and logs that it doesn't.
use Rattle.wasi_world.specs.declared.call.Call.TheVariants as call
use Rattle.wasi_world.specs.declared.call.Told.TheVariants as told
use Rattle.wasi_laws.specs.Receivers.{ReceivesOnOne}
use Rattle.wasi_laws.proofs.Words.{List, Step, Entry, OpId, [], entry, inl, inr, own_of, part_of, ap, arith, refl, ◌∷◌, ◌≡◌}

asks : OpId → OpId → Entry
asks op side = entry op (call.Recv side) told.Pending

-- two network sockets, which lines 1 and 2 made, are asked by one operation
two_sockets : (steps : List Step) → ReceivesOnOne steps (asks (part_of 3 1) (own_of 1) ∷ asks (part_of 3 1) (own_of 2) ∷ []) → ⊥
unfolding asks
two_sockets steps h = let e : 1 ≡ 2 = ap (λ (o : OpId). o.step) (h.one (part_of 3 1) (own_of 1) (own_of 2) (record { told = told.Pending; asked = inl refl }) (record { told = told.Pending; asked = inr (inl refl) })) in absurd (omega (arith, e))

-- one is asked by the first name of a line that is no p3-udp-receive
by_a_line : ReceivesOnOne [] (asks (own_of 3) (own_of 1) ∷ []) → ⊥
unfolding asks
by_a_line h = elim (h.later (own_of 3) (own_of 1) (record { told = told.Pending; asked = inl refl })) [ inl k ↦ absurd (omega (arith, k)) | inr k ↦ absurd (let e = k.at in cc) ]
