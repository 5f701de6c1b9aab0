-- Which judgements a judgement rests on: those whose names stand in it, and so on.
use Rattle.std.specs.Prelude.{List, [], ◌∷◌, ◌++◌, map, flat_map, Contains, option_to_list}
use Rattle.gft_syntax.specs.declared.reference.Whole.{Whole}
use Rattle.gft_syntax.specs.Parts.{names_in}
use Rattle.gft_model.specs.Items.{Item, parameter_type, bare_parameter, oper, alternative, lincat, linear}

-- the whole names in an item
abbrev pub item_names : Item → List Whole
item_names (parameter_type w cs) = flat_map (λ c. flat_map (λ a. names_in a.of_type) c.arguments) cs
item_names (bare_parameter w) = []
item_names (oper w t d) = flat_map names_in (option_to_list t ++ option_to_list d)
item_names (alternative w t xs D d) = flat_map names_in (option_to_list t ++ D ∷ d ∷ [])
item_names (lincat lang w e) = names_in e
item_names (linear k lang w e) = names_in e

-- the names by which terms name an item: its own, and those of constructors, which count as their
-- parameter type; terms name no lincat, lin, lindef or linref
abbrev pub answers_to : Item → List Whole
answers_to (parameter_type w cs) = w ∷ map (λ c. record { «module» = w.«module»; name = c.name.name }) cs
answers_to (bare_parameter w) = w ∷ []
answers_to (oper w t d) = w ∷ []
answers_to (alternative w t xs D d) = w ∷ []
answers_to i = []

-- an item rests on those that the names in it name, and on what these rest on
pub data Rests (items : List Item) : Item → Item → Type 0 where
  names_it : {i k v : _} → Contains items k → Contains (item_names i) v → Contains (answers_to k) v → Rests items i k
  and_so_on : {i j k : _} → Rests items i j → Rests items j k → Rests items i k

-- no item of the name rests on one of the name; it goes by name, so an overload is one oper
abbrev pub NoCycle : List Item → Whole → Type 0
NoCycle items w =
    (i k : Item) → Contains items i → Contains (answers_to i) w → Contains (answers_to k) w → ¬ (Rests items i k)
