-- `serialize::tables::fill_all` meets its contract. Assumes nothing.
use Rattle.std.proofs.Common.{ℕ, sym, ◌∙◌, inl, inr, arith}
use lib.ListN.{length-replicate}
use Rattle.serialize.proofs.OrAll.{each_within}
use Rattle.serialize.proofs.tables.fill_all.Goals as goal

pub fill_tables-requires : goal.fill_tables-requires
fill_tables-requires c =
    let few = sym c.none_above.ensures ∙ c.if-none_above.true in
    record {
      end_word = omega (arith, c.requires.within, c.requires.size_word);
      copies = λ t h. omega (arith, length-replicate {A = ℕ} 64 0, each_within c.args.counts.now 32 few t h);
    }

pub fill_tables-requires-then-none_above-2 : goal.fill_tables-requires-then-none_above-2
fill_tables-requires-then-none_above-2 c =
    let few = sym c.none_above-2.ensures ∙ c.if-none_above-2.true in
    record {
      end_word = omega (arith, c.requires.within, c.requires.size_word);
      copies = λ t h. omega (arith, length-replicate {A = ℕ} 9216 0, each_within c.args.counts.now 4608 few t h);
    }

pub fill_tables-requires-then-has_room : goal.fill_tables-requires-then-has_room
fill_tables-requires-then-has_room c =
    record { end_word = omega (arith, c.requires.within, c.requires.size_word); copies = c.has_room.ensures c.if-has_room.true }

pub returns-then-none_above : goal.returns-then-none_above
returns-then-none_above c = inl c.fill_tables.ensures

pub returns-then-none_above-2 : goal.returns-then-none_above-2
returns-then-none_above-2 c = inl c.fill_tables-then-none_above-2.ensures

pub returns-then-has_room : goal.returns-then-has_room
returns-then-has_room c = inl c.fill_tables-then-has_room.ensures

pub returns : goal.returns
returns c = inr c.insert_singly.ensures
