-- `refusals::number` meets its contract: each arm knows which word it has.

use Rattle.refusals.proofs.number.Goals as goal

pub enum_told-1 : goal.enum_told-1
enum_told-1 c = c.in-Ragged.in-Ragged-own.keys1

pub enum_told-in-Misprint : goal.enum_told-in-Misprint
enum_told-in-Misprint c = c.in-Misprint.in-Misprint-own.keys2

pub enum_told-in-OutOfOrder : goal.enum_told-in-OutOfOrder
enum_told-in-OutOfOrder c = c.in-OutOfOrder.in-OutOfOrder-own.keys3

pub enum_told-in-Size : goal.enum_told-in-Size
enum_told-in-Size c = c.in-Size.in-Size-own.keys4

pub enum_told-in-CodeOutside : goal.enum_told-in-CodeOutside
enum_told-in-CodeOutside c = c.in-CodeOutside.in-CodeOutside-own.keys5

pub enum_told-in-MemoryLoop : goal.enum_told-in-MemoryLoop
enum_told-in-MemoryLoop c = c.in-MemoryLoop.in-MemoryLoop-own.keys6

pub enum_told-in-Depth : goal.enum_told-in-Depth
enum_told-in-Depth c = c.in-Depth.in-Depth-own.keys7

pub enum_told-in-NoSuchGroup : goal.enum_told-in-NoSuchGroup
enum_told-in-NoSuchGroup c = c.in-NoSuchGroup.in-NoSuchGroup-own.keys8

pub enum_told-in-NoRoom : goal.enum_told-in-NoRoom
enum_told-in-NoRoom c = c.in-NoRoom.in-NoRoom-own.keys9

pub enum_told-in-NotAiger : goal.enum_told-in-NotAiger
enum_told-in-NotAiger c = c.in-NotAiger.in-NotAiger-own.keys10

pub enum_told-in-Interface : goal.enum_told-in-Interface
enum_told-in-Interface c = c.in-Interface.in-Interface-own.keys11

pub enum_told-in-Undefined : goal.enum_told-in-Undefined
enum_told-in-Undefined c = c.in-Undefined.in-Undefined-own.keys12

pub enum_told-in-NoAnswer : goal.enum_told-in-NoAnswer
enum_told-in-NoAnswer c = c.in-NoAnswer.in-NoAnswer-own.keys13

pub enum_told-in-NoViolation : goal.enum_told-in-NoViolation
enum_told-in-NoViolation c = c.in-NoViolation.in-NoViolation-own.keys14

pub enum_told-in-WrongBase : goal.enum_told-in-WrongBase
enum_told-in-WrongBase c = c.in-WrongBase.in-WrongBase-own.keys15

pub enum_told-in-TiedAddress : goal.enum_told-in-TiedAddress
enum_told-in-TiedAddress c = c.in-TiedAddress.in-TiedAddress-own.keys16

pub enum_told-in-SecondPort : goal.enum_told-in-SecondPort
enum_told-in-SecondPort c = c.in-SecondPort.in-SecondPort-own.keys17

pub enum_told-in-Reset : goal.enum_told-in-Reset
enum_told-in-Reset c = c.in-Reset.in-Reset-own.keys18

pub returns-in-Ragged : goal.returns-in-Ragged
returns-in-Ragged c = rw c.in-Ragged.is

pub returns-in-Misprint : goal.returns-in-Misprint
returns-in-Misprint c = rw c.in-Misprint.is

pub returns-in-OutOfOrder : goal.returns-in-OutOfOrder
returns-in-OutOfOrder c = rw c.in-OutOfOrder.is

pub returns-in-Size : goal.returns-in-Size
returns-in-Size c = rw c.in-Size.is

pub returns-in-CodeOutside : goal.returns-in-CodeOutside
returns-in-CodeOutside c = rw c.in-CodeOutside.is

pub returns-in-MemoryLoop : goal.returns-in-MemoryLoop
returns-in-MemoryLoop c = rw c.in-MemoryLoop.is

pub returns-in-Depth : goal.returns-in-Depth
returns-in-Depth c = rw c.in-Depth.is

pub returns-in-NoSuchGroup : goal.returns-in-NoSuchGroup
returns-in-NoSuchGroup c = rw c.in-NoSuchGroup.is

pub returns-in-NoRoom : goal.returns-in-NoRoom
returns-in-NoRoom c = rw c.in-NoRoom.is

pub returns-in-NotAiger : goal.returns-in-NotAiger
returns-in-NotAiger c = rw c.in-NotAiger.is

pub returns-in-Interface : goal.returns-in-Interface
returns-in-Interface c = rw c.in-Interface.is

pub returns-in-Undefined : goal.returns-in-Undefined
returns-in-Undefined c = rw c.in-Undefined.is

pub returns-in-NoAnswer : goal.returns-in-NoAnswer
returns-in-NoAnswer c = rw c.in-NoAnswer.is

pub returns-in-NoViolation : goal.returns-in-NoViolation
returns-in-NoViolation c = rw c.in-NoViolation.is

pub returns-in-WrongBase : goal.returns-in-WrongBase
returns-in-WrongBase c = rw c.in-WrongBase.is

pub returns-in-TiedAddress : goal.returns-in-TiedAddress
returns-in-TiedAddress c = rw c.in-TiedAddress.is

pub returns-in-SecondPort : goal.returns-in-SecondPort
returns-in-SecondPort c = rw c.in-SecondPort.is

pub returns-in-Reset : goal.returns-in-Reset
returns-in-Reset c = rw c.in-Reset.is
