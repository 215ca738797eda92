mod Order
mod Answering
mod OneAnswer
