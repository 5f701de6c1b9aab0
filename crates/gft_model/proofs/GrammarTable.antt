-- What the rules of the grammar spell, the table of forms spells.
use Rattle.std.proofs.Common.{◌≡◌, refl, sym, ◌∙◌, false, ◌∷◌, []}
use Rattle.gft_core.specs.declared.place.Place.{Place}
use Rattle.gft_model.specs.Grammar as F
use Rattle.gft_model.proofs.GrammarRules as Rules
use Rattle.gft_model.proofs.FirstTokens.{may_be_empty}
use Rattle.gft_model.proofs.Beginnings.{begun, impossible}

-- a part that is never nothing has a first token
placed_at : {g : Rules.Part} {ts rest : Rules.Tokens} {a : Rules.Meaning g} → may_be_empty g ≡ false
    → Rules.Spells g ts a rest → (p : Place) × Rules.FirstAt ts p
placed_at {ts = []} e d = impossible (sym e ∙ begun d)
placed_at {ts = t ∷ ts} e d = (t.place, refl)

pub tabled : {g : Rules.Part} {ts rest : Rules.Tokens} {a : Rules.Meaning g} → Rules.Spells g ts a rest → F.Spells g ts a rest
tabled (Rules.infix_term Rules.alternatives d0 h1 d2 first is) =
    F.by_form F.alternatives first (F.next_part (tabled d0) (F.next_symbol h1 (F.next_part (tabled d2) (F.no_piece is))))
tabled (Rules.infix_term Rules.table_type d0 h1 d2 first is) =
    F.by_form F.table_type first (F.next_part (tabled d0) (F.next_symbol h1 (F.next_part (tabled d2) (F.no_piece is))))
tabled (Rules.infix_term Rules.function_type d0 h1 d2 first is) =
    F.by_form F.function_type first (F.next_part (tabled d0) (F.next_symbol h1 (F.next_part (tabled d2) (F.no_piece is))))
tabled (Rules.infix_term Rules.append d0 h1 d2 first is) =
    F.by_form F.append first (F.next_part (tabled d0) (F.next_symbol h1 (F.next_part (tabled d2) (F.no_piece is))))
tabled (Rules.infix_term Rules.glue d0 h1 d2 first is) =
    F.by_form F.glue first (F.next_part (tabled d0) (F.next_symbol h1 (F.next_part (tabled d2) (F.no_piece is))))
tabled (Rules.infix_term Rules.selection d0 h1 d2 first is) =
    F.by_form F.selection first (F.next_part (tabled d0) (F.next_symbol h1 (F.next_part (tabled d2) (F.no_piece is))))
tabled (Rules.infix_term Rules.extension d0 h1 d2 first is) =
    F.by_form F.extension first (F.next_part (tabled d0) (F.next_symbol h1 (F.next_part (tabled d2) (F.no_piece is))))
tabled (Rules.infix_term Rules.pair d0 h1 d2 first is) =
    F.by_form F.pair first (F.next_part (tabled d0) (F.next_symbol h1 (F.next_part (tabled d2) (F.no_piece is))))
tabled (Rules.arrow_from h0 d1 h2 d3 h4 h5 d6 is) =
    F.by_form F.function_type_of refl (F.next_symbol h0 (F.next_part (tabled d1) (F.next_symbol h2 (F.next_part (tabled d3)
    (F.next_symbol h4 (F.next_symbol h5 (F.next_part (tabled d6) (F.no_piece is))))))))
tabled (Rules.lambda Rules.of_function h0 d1 h2 d3 is) =
    F.by_form F.function refl (F.next_symbol h0 (F.next_part (tabled d1) (F.next_symbol h2 (F.next_part (tabled d3)
    (F.no_piece is)))))
tabled (Rules.lambda Rules.of_table h0 d1 h2 d3 is) =
    F.by_form F.table_function refl (F.next_symbol h0 (F.next_part (tabled d1) (F.next_symbol h2 (F.next_part (tabled d3)
    (F.no_piece is)))))
tabled (Rules.let_in h0 d1 h2 c1 d3 is) =
    F.by_form F.let_in refl (F.next_word h0 (F.next_part_where (tabled d1) c1 (F.next_word h2 (F.next_part (tabled d3)
    (F.no_piece is)))))
tabled (Rules.let_braces h0 h1 d2 h3 h4 c2 d5 is) =
    F.by_form F.let_braces refl (F.next_word h0 (F.next_symbol h1 (F.next_part_where (tabled d2) c2 (F.next_symbol h3
    (F.next_word h4 (F.next_part (tabled d5) (F.no_piece is)))))))
tabled (Rules.where_locals d0 h1 h2 d3 h4 c3 first is) =
    F.by_form F.where_locals first (F.next_part (tabled d0) (F.next_word h1 (F.next_symbol h2 (F.next_part_where (tabled d3)
    c3 (F.next_symbol h4 (F.no_piece is))))))
tabled (Rules.table h0 h1 d2 h3 is) =
    F.by_form F.table refl (F.next_word h0 (F.next_symbol h1 (F.next_part (tabled d2) (F.next_symbol h3 (F.no_piece is)))))
tabled (Rules.table_over h0 d1 h2 d3 h4 is) =
    F.by_form F.table_over refl (F.next_word h0 (F.next_part (tabled d1) (F.next_symbol h2 (F.next_part (tabled d3)
    (F.next_symbol h4 (F.no_piece is))))))
tabled (Rules.table_list h0 d1 h2 d3 h4 is) =
    F.by_form F.table_list refl (F.next_word h0 (F.next_part (tabled d1) (F.next_symbol h2 (F.next_part (tabled d3)
    (F.next_symbol h4 (F.no_piece is))))))
tabled (Rules.application d0 d1 first is) =
    F.by_form F.application first (F.next_part (tabled d0) (F.next_part (tabled d1) (F.no_piece is)))
tabled (Rules.case_of h0 d1 h2 h3 d4 h5 is) =
    F.by_form F.case_of refl (F.next_word h0 (F.next_part (tabled d1) (F.next_word h2 (F.next_symbol h3 (F.next_part (tabled
    d4) (F.next_symbol h5 (F.no_piece is)))))))
tabled (Rules.variants h0 h1 d2 h3 is) =
    F.by_form F.variants refl (F.next_word h0 (F.next_symbol h1 (F.next_part (tabled d2) (F.next_symbol h3 (F.no_piece is)))))
tabled (Rules.projection d0 h1 h2 first is) =
    F.by_form F.projection first (F.next_part (tabled d0) (F.next_symbol h1 (F.next_identifier h2 (F.no_piece is))))
tabled (Rules.variable h0 is) =
    F.by_form F.variable refl (F.next_identifier h0 (F.no_piece is))
tabled (Rules.literal h0 is) =
    F.by_form F.literal refl (F.next_text h0 (F.no_piece is))
tabled (Rules.literal_in_brackets h0 h1 h2 is) =
    F.by_form F.literal_in_brackets refl (F.next_symbol h0 (F.next_text h1 (F.next_symbol h2 (F.no_piece is))))
tabled (Rules.number h0 is) =
    F.by_form F.a_number refl (F.next_number h0 (F.no_piece is))
tabled (Rules.no_words h0 h1 is) =
    F.by_form F.no_words refl (F.next_symbol h0 (F.next_symbol h1 (F.no_piece is)))
tabled (Rules.list_category h0 h1 h2 is) =
    F.by_form F.list_category refl (F.next_symbol h0 (F.next_identifier h1 (F.next_symbol h2 (F.no_piece is))))
tabled (Rules.sort Rules.strings h0 is) =
    F.by_form F.strings refl (F.next_word h0 (F.no_piece is))
tabled (Rules.sort Rules.types h0 is) =
    F.by_form F.types refl (F.next_word h0 (F.no_piece is))
tabled (Rules.sort Rules.parameter_types h0 is) =
    F.by_form F.parameter_types refl (F.next_word h0 (F.no_piece is))
tabled (Rules.sort Rules.numbers h0 is) =
    F.by_form F.numbers refl (F.next_word h0 (F.no_piece is))
tabled (Rules.sort Rules.predefined h0 is) =
    F.by_form F.predefined refl (F.next_word h0 (F.no_piece is))
tabled (Rules.fields h0 d1 h2 c1 is) =
    F.by_form F.a_record refl (F.next_symbol h0 (F.next_part_where (tabled d1) c1 (F.next_symbol h2 (F.no_piece is))))
tabled (Rules.tuple h0 d1 h2 is) =
    F.by_form F.tuple refl (F.next_symbol h0 (F.next_part (tabled d1) (F.next_symbol h2 (F.no_piece is))))
tabled (Rules.typed h0 d1 h2 d3 h4 is) =
    F.by_form F.typed refl (F.next_symbol h0 (F.next_part (tabled d1) (F.next_symbol h2 (F.next_part (tabled d3)
    (F.next_symbol h4 (F.no_piece is))))))
tabled (Rules.infix_pattern Rules.either d0 h1 d2 first is) =
    F.by_form F.either first (F.next_part (tabled d0) (F.next_symbol h1 (F.next_part (tabled d2) (F.no_piece is))))
tabled (Rules.infix_pattern Rules.in_sequence d0 h1 d2 first is) =
    F.by_form F.in_sequence first (F.next_part (tabled d0) (F.next_symbol h1 (F.next_part (tabled d2) (F.no_piece is))))
tabled (Rules.constructor_with h0 (Rules.some d1 d2) is) =
    F.by_form F.constructor_with refl (F.next_identifier h0 (F.next_part (tabled d1) (F.next_part (tabled d2) (F.no_piece is))))
tabled (Rules.constructor_of h0 h1 h2 d3 is) =
    F.by_form F.constructor_of refl (F.next_identifier h0 (F.next_symbol h1 (F.next_identifier h2 (F.next_part (tabled d3)
    (F.no_piece is)))))
tabled (Rules.star d0 h1 first is) =
    F.by_form F.star first (F.next_part (tabled d0) (F.next_symbol h1 (F.no_piece is)))
tabled (Rules.as_pattern h0 h1 d2 is) =
    F.by_form F.as_pattern refl (F.next_identifier h0 (F.next_symbol h1 (F.next_part (tabled d2) (F.no_piece is))))
tabled (Rules.anything h0 is) =
    F.by_form F.anything refl (F.next_symbol h0 (F.no_piece is))
tabled (Rules.character h0 is) =
    F.by_form F.character refl (F.next_symbol h0 (F.no_piece is))
tabled (Rules.named_pattern h0 is) =
    F.by_form F.named_pattern refl (F.next_identifier h0 (F.no_piece is))
tabled (Rules.text_pattern h0 is) =
    F.by_form F.text_pattern refl (F.next_text h0 (F.no_piece is))
tabled (Rules.number_pattern h0 is) =
    F.by_form F.number_pattern refl (F.next_number h0 (F.no_piece is))
tabled (Rules.record_pattern h0 d1 h2 c1 is) =
    F.by_form F.record_pattern refl (F.next_symbol h0 (F.next_part_where (tabled d1) c1 (F.next_symbol h2 (F.no_piece is))))
tabled (Rules.tuple_pattern h0 d1 h2 is) =
    F.by_form F.tuple_pattern refl (F.next_symbol h0 (F.next_part (tabled d1) (F.next_symbol h2 (F.no_piece is))))
tabled (Rules.local_value d0 h1 d2) =
    F.by_form F.local_value (placed_at refl d0).1 (F.next_part (tabled d0) (F.next_symbol h1 (F.next_part (tabled d2)
    (F.no_piece refl))))
tabled (Rules.local_type d0 h1 d2) =
    F.by_form F.local_type (placed_at refl d0).1 (F.next_part (tabled d0) (F.next_symbol h1 (F.next_part (tabled d2)
    (F.no_piece refl))))
tabled (Rules.typed_local d0 h1 d2 h3 d4) =
    F.by_form F.typed_local (placed_at refl d0).1 (F.next_part (tabled d0) (F.next_symbol h1 (F.next_part (tabled d2)
    (F.next_symbol h3 (F.next_part (tabled d4) (F.no_piece refl))))))
tabled (Rules.a_branch d0 h1 d2) =
    F.by_form F.a_branch (placed_at refl d0).1 (F.next_part (tabled d0) (F.next_symbol h1 (F.next_part (tabled d2) (F.no_piece
    refl))))
tabled (Rules.a_field d0 h1 d2) =
    F.by_form F.a_field (placed_at refl d0).1 (F.next_part (tabled d0) (F.next_symbol h1 (F.next_part (tabled d2) (F.no_piece
    refl))))
tabled (Rules.an_alternative d0 h1 d2 h3 d4) =
    F.by_form F.an_alternative (placed_at refl d0).1 (F.next_part (tabled d0) (F.next_symbol h1 (F.next_part (tabled d2)
    (F.next_symbol h3 (F.next_part (tabled d4) (F.no_piece refl))))))
tabled (Rules.with_variables h0 d1 h2 d3 h4) =
    F.by_form F.with_variables refl (F.next_symbol h0 (F.next_part (tabled d1) (F.next_symbol h2 (F.next_part (tabled d3)
    (F.next_symbol h4 (F.no_piece refl))))))
tabled (Rules.without_variables d0) =
    F.by_form F.without_variables (placed_at refl d0).1 (F.next_part (tabled d0) (F.no_piece refl))
tabled (Rules.a_constructor h0 d1) =
    F.by_form F.a_constructor refl (F.next_part (F.by_form F.a_placed_name refl (F.next_identifier h0 (F.no_piece refl)))
    (F.next_part (tabled d1) (F.no_piece refl)))
tabled (Rules.a_name h0) =
    F.by_form F.a_name refl (F.next_identifier h0 (F.no_piece refl))
tabled (Rules.a_variable h0) =
    F.by_form F.a_variable refl (F.next_identifier h0 (F.no_piece refl))
tabled (Rules.no_variable h0) =
    F.by_form F.no_variable refl (F.next_symbol h0 (F.no_piece refl))
tabled (Rules.a_placed_name h0) =
    F.by_form F.a_placed_name refl (F.next_identifier h0 (F.no_piece refl))
tabled (Rules.category_alone h0) =
    F.by_form F.category_alone refl (F.next_identifier h0 (F.no_piece refl))
tabled (Rules.category_of_lists h0 h1 h2) =
    F.by_form F.category_of_lists refl (F.next_symbol h0 (F.next_identifier h1 (F.next_symbol h2 (F.no_piece refl))))
tabled (Rules.whole h0) =
    F.by_form F.whole refl (F.next_part (F.by_form F.a_placed_name refl (F.next_identifier h0 (F.no_piece refl))) (F.no_piece
    refl))
tabled (Rules.only h0 h1 d2 h3) =
    F.by_form F.only refl (F.next_part (F.by_form F.a_placed_name refl (F.next_identifier h0 (F.no_piece refl)))
    (F.next_symbol h1 (F.next_part (tabled d2) (F.next_symbol h3 (F.no_piece refl)))))
tabled (Rules.except h0 h1 h2 d3 h4) =
    F.by_form F.except refl (F.next_part (F.by_form F.a_placed_name refl (F.next_identifier h0 (F.no_piece refl)))
    (F.next_symbol h1 (F.next_symbol h2 (F.next_part (tabled d3) (F.next_symbol h4 (F.no_piece refl))))))
tabled (Rules.plainly h0) =
    F.by_form F.plainly refl (F.next_part (F.by_form F.a_placed_name refl (F.next_identifier h0 (F.no_piece refl)))
    (F.no_piece refl))
tabled (Rules.by_alias h0 h1 h2 h3 h4) =
    F.by_form F.by_alias refl (F.next_symbol h0 (F.next_part (F.by_form F.a_placed_name refl (F.next_identifier h1 (F.no_piece
    refl))) (F.next_symbol h2 (F.next_part (F.by_form F.a_placed_name refl (F.next_identifier h3 (F.no_piece refl)))
    (F.next_symbol h4 (F.no_piece refl))))))
tabled (Rules.instance_of h0 h1 h2 h3 h4) =
    F.by_form F.instance_of refl (F.next_symbol h0 (F.next_part (F.by_form F.a_placed_name refl (F.next_identifier h1
    (F.no_piece refl))) (F.next_symbol h2 (F.next_part (F.by_form F.a_placed_name refl (F.next_identifier h3 (F.no_piece
    refl))) (F.next_symbol h4 (F.no_piece refl))))))
tabled (Rules.one d) = F.one (tabled d)
tabled (Rules.more d h e) = F.more (tabled d) h (tabled e)
tabled Rules.empty = F.empty
tabled (Rules.last d) = F.last (tabled d)
tabled (Rules.next d h e) = F.next (tabled d) h (tabled e)
tabled Rules.none = F.none
tabled (Rules.some d e) = F.some (tabled d) (tabled e)
tabled (Rules.tighter_term Rules.below_exp d) =
    F.by_form F.below_exp (placed_at refl d).1 (F.next_part (tabled d) (F.no_piece refl))
tabled (Rules.tighter_term Rules.below_exp1 d) =
    F.by_form F.below_exp1 (placed_at refl d).1 (F.next_part (tabled d) (F.no_piece refl))
tabled (Rules.tighter_term Rules.below_exp2 d) =
    F.by_form F.below_exp2 (placed_at refl d).1 (F.next_part (tabled d) (F.no_piece refl))
tabled (Rules.tighter_term Rules.below_exp3 d) =
    F.by_form F.below_exp3 (placed_at refl d).1 (F.next_part (tabled d) (F.no_piece refl))
tabled (Rules.tighter_term Rules.below_exp4 d) =
    F.by_form F.below_exp4 (placed_at refl d).1 (F.next_part (tabled d) (F.no_piece refl))
tabled (Rules.tighter_term Rules.below_exp5 d) =
    F.by_form F.below_exp5 (placed_at refl d).1 (F.next_part (tabled d) (F.no_piece refl))
tabled (Rules.tighter_pattern Rules.below_patt d) =
    F.by_form F.below_patt (placed_at refl d).1 (F.next_part (tabled d) (F.no_piece refl))
tabled (Rules.tighter_pattern Rules.below_patt1 d) =
    F.by_form F.below_patt1 (placed_at refl d).1 (F.next_part (tabled d) (F.no_piece refl))
tabled (Rules.tighter_pattern Rules.below_patt2 d) =
    F.by_form F.below_patt2 (placed_at refl d).1 (F.next_part (tabled d) (F.no_piece refl))
tabled (Rules.tighter_pattern Rules.below_patt3 d) =
    F.by_form F.below_patt3 (placed_at refl d).1 (F.next_part (tabled d) (F.no_piece refl))
tabled (Rules.in_parentheses h d i) =
    F.by_form F.in_parentheses refl (F.next_symbol h (F.next_part (tabled d) (F.next_symbol i (F.no_piece refl))))
tabled (Rules.pattern_in_parentheses h d i) =
    F.by_form F.pattern_in_parentheses refl (F.next_symbol h (F.next_part (tabled d) (F.next_symbol i (F.no_piece refl))))
