-- A program with types, as a tree. Each name in it is a number among its names.
use Rattle.std.specs.Prelude.{ℕ, suc, List, map}
use Rattle.std.specs.List.{flat_map}
use Rattle.core_reader.specs.declared.syntax.Binder.{Binder}
use Rattle.core_reader.specs.Tree.{Data, Function, Program}

mutual
  -- A type as it is written. A binder is a name at its place.
  pub data Written : Type 0 where
    Var : (variable : Binder) → Written
    Named : (name : Binder) (args : WrittenTypes) → Written
    Arrow : (from to : Written) → Written

  pub data WrittenTypes : Type 0 where
    NoTypes : WrittenTypes
    AndType : (type : Written) (rest : WrittenTypes) → WrittenTypes

-- a constructor with the types of its fields
pub record Constructor : Type 0 where
  pub name : Binder
  pub fields : WrittenTypes

-- a type with its parameters and its constructors
pub record TypeDecl : Type 0 where
  pub name : Binder
  pub params : List Binder
  pub constructors : List Constructor

-- the type of a function: from these types to the last one
pub record Signature : Type 0 where
  pub function : Binder
  pub args : WrittenTypes
  pub result : Written

-- A program with types, each kind of declaration in text order.
pub record Source : Type 0 where
  pub names : List (List ℕ)
  pub types : List TypeDecl
  pub signatures : List Signature
  pub functions : List Function

-- ---- the program without its types

abbrev pub count : WrittenTypes → ℕ
count NoTypes = 0
count (AndType t ts) = suc (count ts)

abbrev pub data_of : Constructor → Data
data_of c = record { name = c.name.name.0; fields = count c.fields; at = c.name.at }

abbrev pub data_in : TypeDecl → List Data
data_in t = map data_of t.constructors

-- Each constructor is declared with its number of fields, and the signatures are gone.
abbrev pub erased : Source → Program
erased s = record {
  names = s.names;
  constructors = flat_map data_in s.types;
  functions = s.functions;
}
