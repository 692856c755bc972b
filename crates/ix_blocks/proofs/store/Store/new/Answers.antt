use Rattle.std.{proofs.Common.{◌≡◌, ℕ, List, [], length, get_or, replicate, sym, ap, ◌∙◌, arith}, specs.List.range_with_len}
use Rattle.std.proofs.lemmas.List.{length-replicate, get_or-replicate, Elements.same_from_all_zip, FromFn.length-range_with_len}
use Rattle.ix_links.{specs.Chains.pool, proofs.Held.pool-all_free}
use Rattle.ix_blocks.{specs.Stored.flats, proofs.Storing.flats-none}
use Rattle.ix_blocks.proofs.store.Store.new.Goals as goal

pub invariant_of-result : goal.invariant_of-result
invariant_of-result c =
    let zeros : List ℕ = replicate 512 0 in
    let items : c.in_ok-pool.pool.items ≡ replicate c.args.blocks zeros =
    c.in_ok-pool.ensures.items_if_clones_equal (λ y h. same_from_all_zip (λ (a : ℕ) (b : ℕ). b ≡ a) zeros y h.whole (λ a b e. e)) in
    record {
      law = c.is_pool.ensures;
      each = ap length items ∙ length-replicate _ zeros ∙ sym (ap pool c.in_ok-links.ensures ∙ pool-all_free _ _);
      sized = λ b below. ap (λ ds. length (get_or ds b [])) items
          ∙ ap length (get_or-replicate c.args.blocks b zeros [] (omega (arith, below, ap length items, length-replicate c.args.blocks zeros)))
          ∙ length-replicate {A = ℕ} 512 0;
    }

pub returns : goal.returns
returns c =
    ap (λ s. record { wholes = flats c.in_ok-pool.pool.items s.chains; free = length s.free }) c.in_ok-links.ensures
    ∙ ap (λ ws. record { wholes = ws; free = length (range_with_len 0 c.args.blocks) }) (flats-none _ _)
    ∙ ap (λ n. record { wholes = replicate c.args.files []; free = n }) (length-range_with_len 0 _)
